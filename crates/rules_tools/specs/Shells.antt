-- What a run of `tcprules` does, from its two paths on.
use Rattle.std.specs.Prelude.{◌≡◌, ◌⊎◌, ℤ, ℕ, Bool, true, false, List, Option, None, Result, Err, bytes_eq}
use Rattle.dir_calls.specs.declared.fault.DirFault.{DirFault}
use Rattle.dir_calls.specs.declared.dir.Dir.{Ghosts}
use Rattle.rules_install.specs.NamePair.{NamePair}
use Rattle.rules_tools.specs.Causes.{failure_of, without_cause}
use Rattle.rules_tools.specs.Installed.{IsRefusal, Runs}
use Rattle.rules_tools.specs.Paths.{AreNames, IsSplit, folder_path, paths_fault}
use Rattle.rules_tools.specs.declared.cause.ErrorCause.{ErrorCause}
use Rattle.rules_tools.specs.declared.tcprules.RulesFailure.{RulesFailure}
use Rattle.rules_tools.specs.declared.tcprules.TcprulesFault.{TcprulesFault}

-- A run of `tcprules` over folders by their paths.
pub record PathRun (S D F : Type 0) : Type 1 where
  -- what a folder tells that was opened, as of a directory
  pub tells : Ghosts D F
  -- what is answered of two paths, what opening one does, and what letting a folder go does, with the cause of the last fault there
  pub are_one : S → List ℕ → List ℕ → Bool → Type 0
  pub opens : S → List ℕ → D → S → Type 0
  pub closes : S → D → Option ErrorCause → S → Type 0
  -- all that the reader had, where that is known, and the number that it has noted of its last call
  pub input : Option (List ℕ)
  pub noted : Option ℤ
  -- the folders before the run and after it
  pub old : S
  pub new : S

-- The run in a folder that was opened, for two names there: the folder is let go as the installation leaves it, and what that answers is told with
-- the cause: the number that the reader noted, or what the folder told. After a refusal that is as it was opened.
pub record RunsIn {S D F : Type 0} (run : PathRun S D F) (opened : D) (names : NamePair) (result : Result (Unit {0}) RulesFailure) : Type 0 where
  pub left : D
  pub scratch : Option DirFault
  pub outcome : Result (Unit {0}) TcprulesFault
  pub ran : Runs (record { tells = run.tells; left = scratch; input = run.input; old = opened; new = left }) names.cdb names.tmp outcome
  pub untouched : IsRefusal outcome → left ≡ opened
  pub disk : Option ErrorCause
  pub closes : run.closes run.old left disk run.new
  pub told : result ≡ failure_of outcome run.noted disk

-- nothing is wrong with the paths: the folder is opened, once, and the run is made there
pub record OpensOne {S D F : Type 0} (run : PathRun S D F) (one_folder : Bool) (folder : List ℕ) (names : NamePair)
    (result : Result (Unit {0}) RulesFailure) : Type 0 where
  pub placed : paths_fault one_folder names ≡ None
  pub opened : D
  pub between : S
  pub opens : run.opens run.old (folder_path folder) opened between
  pub there : RunsIn (record run { old = between }) opened names result

-- no folder is opened: something is wrong with the paths, or there is no memory
pub record OpensNone {S D F : Type 0} (run : PathRun S D F) (one_folder : Bool) (names : NamePair) (result : Result (Unit {0}) RulesFailure) : Type 0 where
  pub fault : TcprulesFault
  pub refused : AreNames one_folder names (Err fault)
  pub told : result ≡ Err (without_cause fault)
  pub same : run.new ≡ run.old

-- whether the folders of two paths are one: they are where they are spelled alike, and else what is answered of them
abbrev pub AreOne : (are_one : List ℕ → List ℕ → Bool → Type 0) → (folder other : List ℕ) → Bool → Type 0
AreOne are_one folder other one =
    ((bytes_eq folder other ≡ true) × (one ≡ true)) ⊎ ((bytes_eq folder other ≡ false) × are_one (folder_path folder) (folder_path other) one)

-- and a run for two paths, from these to what is told and to how the folders stand
pub record RunsByPaths {S D F : Type 0} (run : PathRun S D F) (cdb tmp : List ℕ) (result : Result (Unit {0}) RulesFailure) : Type 0 where
  pub folder : List ℕ
  pub other : List ℕ
  pub names : NamePair
  pub of_cdb : IsSplit cdb folder names.cdb
  pub of_tmp : IsSplit tmp other names.tmp
  pub one_folder : Bool
  pub told : AreOne (run.are_one run.old) folder other one_folder
  pub runs : OpensNone run one_folder names result ⊎ OpensOne run one_folder folder names result
