-- The checks of words whose options were read, in their order, and the fault that each finds.
use Rattle.std.specs.Prelude.{ℕ, Bool, is_none, List, [], ◌∷◌, ◌++◌, map, Option, Some, None, codes, if◌then◌else◌}
use Rattle.server_words.specs.OptionWords.{NumberOption, has_bad, value_of}
use Rattle.server_words.specs.Words.{LetterGiven, Reading}
use Rattle.server_words.specs.declared.fault.ServerWordsFault.{ServerWordsFault}
use Rattle.server_words.specs.declared.fault.ServerWordsFault.TheVariants as fault
use Rattle.server_words.specs.declared.mode.Mode.{Mode}
use Rattle.server_words.specs.Limits.{numbers}
use Rattle.server_words.specs.Modes.{mode_in}
use Rattle.server_words.specs.Operands.{operands_in}
use Rattle.server_words.specs.Options.{letter}
use Rattle.server_words.specs.Wrappings.{wrapping_in}

-- the fault that a check finds where it fails
abbrev pub found : Bool → ServerWordsFault → Option ServerWordsFault
found fails f = if fails then Some f else None

-- an option has a bad number
abbrev pub number_check : List LetterGiven → NumberOption → Option ServerWordsFault
number_check options option = found (has_bad options option) (fault.BadNumber option.letter)

-- the words after the options are no host, port and program
abbrev pub operands_check : List (List ℕ) → Option ServerWordsFault
operands_check rest = found (is_none (operands_in rest)) fault.Usage

-- the value of `-w` names no wrappers
abbrev pub wrapping_check : List LetterGiven → Option ServerWordsFault
wrapping_check options = found (is_none (wrapping_in (value_of options (letter (codes "w"))))) fault.BadWrappers

-- `-w` is given, and a last `-s`
abbrev pub mode_check : Mode → List LetterGiven → Option ServerWordsFault
mode_check by_name options = found (is_none (mode_in by_name options)) fault.BadWrappers

-- the checks
abbrev pub checks : Mode → Reading → List (Option ServerWordsFault)
checks by_name read =
    map (number_check read.options) numbers
    ++ operands_check read.rest
    ∷ wrapping_check read.options
    ∷ mode_check by_name read.options
    ∷ []

-- the first fault that is found
abbrev pub first_found : List (Option ServerWordsFault) → Option ServerWordsFault
first_found [] = None
first_found (Some f ∷ more) = Some f
first_found (None ∷ more) = first_found more
