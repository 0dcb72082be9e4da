-- What a program is started with, and what is told of one that the system did not start.
use Rattle.std.specs.Prelude.{ℕ, List, [], ◌∷◌, ◌++◌, flat_map, map}
use Rattle.child_jobs.specs.Programs.{ProgramText}
use Rattle.child_jobs.specs.Variables.{Variable, Variables}
use Rattle.child_jobs.specs.declared.outcome.StartFault.{StartFault}
use Rattle.child_jobs.specs.declared.outcome.StartFault.TheVariants as fault
use Rattle.std.specs.declared.io.ErrorKind.{ErrorKind}
use Rattle.std.specs.declared.io.ErrorKind.TheVariants.{NotFound, PermissionDenied, OutOfMemory}

-- of an error of the system of this kind
abbrev pub told_of : ErrorKind → StartFault
told_of NotFound = fault.NotFound
told_of PermissionDenied = fault.Refused
told_of OutOfMemory = fault.OutOfMemory
told_of kind = fault.Other

-- texts, each with a zero byte behind it
abbrev pub ended : List (List ℕ) → List ℕ
ended texts = flat_map (λ text. text ++ 0 ∷ []) texts

-- the words of a program: its path, and its arguments
abbrev pub words_of : ProgramText → List (List ℕ)
words_of program = program.path ∷ program.args

-- a variable, as NAME=VALUE
abbrev pub entry_of : Variable → List ℕ
entry_of v = v.0 ++ 61 ∷ v.1

-- each of some variables, as that
abbrev pub entries_of : Variables → List (List ℕ)
entries_of = map entry_of
