-- Installations of one rules file, beside each other and beside others who change their folder as they like. There is
-- any number of them, and each may begin, end or be killed at any moment.
use Rattle.std.specs.Prelude.{◌≡◌, ◌≢◌, ◌⊎◌, ⊤, ℕ, true, false, List, slice_get, Option, None, Some, Result, Ok}
use Rattle.dir_calls.specs.NameTable.{NameTable}
use Rattle.dir_calls.specs.Directory.{Directory, FileState, number_of, scratch_of}
use Rattle.dir_calls.specs.Lasting.{IsAmong}
use Rattle.dir_calls.specs.Torn.{StoodThere}
use Rattle.rule_lookup.specs.Pairs.{Rule}
use Rattle.rule_lines.specs.Texts.{AreOfText}
use Rattle.rules_install.specs.Filled.{IsWritten, filled_file, whole_file}
use Rattle.rules_install.specs.Installing.{Installing, next_phase, synced_file}
use Rattle.rules_install.specs.Series.{MayStepFrom}
use Rattle.rules_install.specs.Steps.{Changes, Goes, IsSame}
use Rattle.dir_calls.specs.declared.phase.Phase.{Phase}
use Rattle.dir_calls.specs.declared.phase.Phase.TheVariants.{Fresh, Filling, Named}
use Rattle.rules_install.specs.declared.fault.InstallFault.{InstallFault}

-- A run of an installation: how far it has come, the file that it may write, and the file that it made.
pub record Run : Type 0 where
  pub install : Installing
  pub scratch : Option ℕ
  pub made : Option ℕ

-- A folder, and the runs in it, by their numbers.
pub record Shared : Type 0 where
  pub names : NameTable
  pub files : List FileState
  pub run : ℕ → Run

-- the folder as the directory of a run
abbrev pub view : Shared → ℕ → Directory
view w i = record { names = w.names; files = w.files; scratch = (w.run i).scratch }

-- the file that a run made stays as it is
abbrev pub SparesFile : Run → List FileState → List FileState → Type 0
SparesFile r old new = (number : ℕ) → r.made ≡ Some number → slice_get new number ≡ slice_get old number

-- the run once it has ended, by a fault or a kill
abbrev pub ended : Run → Run
ended r = record { install = record r.install { over = true }; scratch = r.scratch; made = r.made }

-- a run is left alone: it goes on, and the file that it made stays as it is; or it has ended
abbrev pub IsLeftAlone : Run → Run → List FileState → List FileState → Type 0
IsLeftAlone r s old new = ((s ≡ r) × SparesFile r old new) ⊎ (s ≡ ended r)

-- what others do between two calls of the runs: they change names and files as they like, but write to no file of a run
-- that goes on, and put none under the rules name; so a file that may stand there now stood there before, and is as it
-- was
pub record OthersChange (name : List ℕ) (w v : Shared) : Type 0 where
  pub runs : (i : ℕ) → IsLeftAlone (w.run i) (v.run i) w.files v.files
  pub puts_none : (number : ℕ) → StoodThere v.names name (Some number)
      → StoodThere w.names name (Some number) × (slice_get v.files number ≡ slice_get w.files number)

-- the scratch file is filled as far as the installation has come, whatever its name is
abbrev pub IsFilled : Installing → Directory → Option Phase → Type 0
IsFilled s d (Some Fresh) = scratch_of d ≡ Some (record { bytes = filled_file s.rules s.filled s.patched; synced = false })
IsFilled s d (Some Filling) = scratch_of d ≡ Some (record { bytes = filled_file s.rules s.filled s.patched; synced = false })
IsFilled s d reached = ⊤

-- the file that a run made, once it has made it
abbrev pub made_after : Result Phase InstallFault → Option ℕ → Option ℕ → Option ℕ
made_after (Ok Fresh) before now = now
made_after result before now = before

-- the run after a step
abbrev pub run_after : Run → Installing → Directory → Result Phase InstallFault → Run
run_after r s e result = record { install = s; scratch = e.scratch; made = made_after result r.made e.scratch }

-- a rename moves the file that the run made, or changes no name
abbrev pub MovesOwn : Run → Directory → Directory → Type 0
MovesOwn r d e = next_phase r.install ≡ Named → (number_of d r.install.names.tmp ≡ r.made) ⊎ (e.names ≡ d.names)

-- A run makes its next step, in the folder as others left it. It fills the file that it made, and its rename moves only
-- that file.
pub record MakesOwn (r s : Run) (d e : Directory) (result : Result Phase InstallFault) : Type 0 where
  pub may : MayStepFrom r.install
  pub same : IsSame r.install s.install
  pub goes : Goes (next_phase r.install) r.install s.install result
  pub changes : Changes r.install (next_phase r.install) d e result
  pub fills : s.install.over ≡ false → IsFilled s.install e s.install.reached
  pub made : s.made ≡ made_after result r.made e.scratch
  pub own : MovesOwn r d e

-- one of the runs makes a step, and leaves the others alone
pub record RunSteps (name : List ℕ) (i : ℕ) (w v : Shared) : Type 0 where
  pub result : Result Phase InstallFault
  pub step : MakesOwn (w.run i) (v.run i) (view w i) (view v i) result
  pub of_name : (w.run i).install.names.cdb ≡ name
  pub others : (j : ℕ) → j ≢ i → IsLeftAlone (w.run j) (v.run j) w.files v.files

-- steps of the runs, in any order, and what others do between them
pub data Beside (name : List ℕ) : Shared → Shared → Type 0 where
  none : {w : Shared} → Beside name w w
  run : {u v w : Shared} {i : ℕ} → Beside name u v → RunSteps name i v w → Beside name u w
  others : {u v w : Shared} → Beside name u v → OthersChange name v w → Beside name u w

-- no run has made a step yet
pub record AreBegun (w : Shared) : Type 0 where
  pub each : (i : ℕ) → ((w.run i).install.reached ≡ None) × ((w.run i).made ≡ None)

-- the file that is compiled of the rules of an accepted text
abbrev pub IsCompiledOf : List Rule → Option (List ℕ) → Type 0
IsCompiledOf rules content = AreOfText rules × IsWritten rules × (content ≡ Some (whole_file rules))

-- nothing stands there, or what stood there before all runs, or the whole file that is compiled of the text of one of them
abbrev pub IsWhole : List (Option (List ℕ)) → Shared → Option (List ℕ) → Type 0
IsWhole olds w content = (content ≡ None) ⊎ (IsAmong olds content ⊎ ((i : ℕ) × IsCompiledOf (w.run i).install.rules content))

-- the file with this number is the one that a run made, and it is whole and synced
pub record IsItsFile (r : Run) (files : List FileState) (number : ℕ) : Type 0 where
  pub made : r.made ≡ Some number
  pub file : slice_get files number ≡ Some (synced_file r.install.rules)
