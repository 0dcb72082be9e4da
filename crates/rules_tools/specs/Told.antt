-- What `tcprulescheck` tells, from variables and a path.
use Rattle.std.specs.Prelude.{◌≡◌, ◌⊎◌, ⊤, ℤ, ℕ, List, Option, Some, None, IsSome, option_and_then, Result, Ok, Err}
use Rattle.std.specs.Io.KnownBytes.{Appends}
use Rattle.dir_calls.specs.Directory.{Directory, content}
use Rattle.dir_calls.specs.Names.{name_fault}
use Rattle.dir_disk.specs.declared.os_dir.FolderFault.{FolderFault}
use Rattle.dir_disk.specs.declared.os_dir.FolderFault.TheVariants as folder
use Rattle.rule_lookup.specs.Answers.{answer_lines}
use Rattle.rule_lookup.specs.declared.decision.DecideFault.{DecideFault}
use Rattle.rule_lookup.specs.declared.decision.DecideFault.TheVariants as decide
use Rattle.rule_lookup.specs.declared.decision.Decision.{Decision}
use Rattle.rule_lookup.specs.declared.source.FindFault.TheVariants as find
use Rattle.rule_lookup.specs.Peers.{Client}
use Rattle.rules_tools.specs.Causes.{check_failure_of}
use Rattle.rules_tools.specs.Checks.{DecidesBy, FailsBy}
use Rattle.rules_tools.specs.Clients.{client_of}
use Rattle.rules_tools.specs.Paths.{IsSplit, folder_path}
use Rattle.rules_tools.specs.declared.cause.ErrorCause.{ErrorCause}
use Rattle.rules_tools.specs.declared.tcprulescheck.CheckFailure.{CheckFailure}
use Rattle.rules_tools.specs.declared.tcprulescheck.CheckFault.{CheckFault}
use Rattle.rules_tools.specs.declared.tcprulescheck.CheckFault.TheVariants.{BadIp, BadHost, BadInfo, NoFile, Device, ReadFault, Damaged, WriteFault, OutOfMemory}

-- the directory that stands at the path of a folder, if one does
abbrev pub DirectoriesByPath : Type 0
DirectoriesByPath = List ℕ → Option Directory

-- the bytes that stand at a path, by its folder and its last part; `stands` says which directory stands at the path of a folder
abbrev pub bytes_at : (stands : DirectoriesByPath) → (folder name : List ℕ) → Option (List ℕ)
bytes_at stands folder name = option_and_then (λ d. content d name) (stands (folder_path folder))

-- the decision by a file, which is there
abbrev pub DecidesThere : Option (List ℕ) → Client → Decision → Type 0
DecidesThere bytes peer decision = (file : List ℕ) × (bytes ≡ Some file) × DecidesBy (Some file) peer decision

-- the decision by the file that stands at a path
pub record DecidesAt (stands : DirectoriesByPath) (path : List ℕ) (peer : Client) (decision : Decision) : Type 0 where
  pub folder : List ℕ
  pub name : List ℕ
  pub parts : IsSplit path folder name
  pub there : DecidesThere (bytes_at stands folder name) peer decision

-- why there is none: there is no file only where the last part is no name, or nothing stands there; and it is damaged only where its bytes are
abbrev pub HasNone : List ℕ → Option (List ℕ) → Client → CheckFault → Type 0
HasNone name file peer NoFile = IsSome (name_fault name) ⊎ (file ≡ None)
HasNone name file peer Device = ⊤
HasNone name file peer ReadFault = ⊤
HasNone name file peer Damaged = FailsBy file peer Damaged
HasNone name file peer OutOfMemory = ⊤
HasNone name file peer fault = ⊥

-- a last part that is no name, or for which there is no memory
abbrev pub NameFails : List ℕ → CheckFault → Type 0
NameFails name NoFile = IsSome (name_fault name)
NameFails name OutOfMemory = ⊤
NameFails name fault = ⊥

-- what is told of a folder that can't be used: where none stands there is no file
abbrev pub told_folder : FolderFault → CheckFault
told_folder folder.NoFolder = NoFile
told_folder folder.Device = Device
told_folder folder.OutOfMemory = OutOfMemory

-- what is told where a file gives no decision
abbrev pub told_decide : DecideFault → CheckFault
told_decide (decide.Find find.Device) = ReadFault
told_decide (decide.Find find.Short) = Damaged
told_decide (decide.Find find.OutOfMemory) = OutOfMemory
told_decide (decide.Code fault) = Damaged
told_decide decide.OutOfMemory = OutOfMemory

pub record FailsAt (stands : DirectoriesByPath) (path : List ℕ) (peer : Client) (fault : CheckFault) : Type 0 where
  pub folder : List ℕ
  pub name : List ℕ
  pub parts : IsSplit path folder name
  pub fails : HasNone name (bytes_at stands folder name) peer fault

-- the client that is told and the decision for it, whose lines were written
pub record Printed (value : List ℕ → Option (List ℕ)) (stands : DirectoriesByPath) (path : List ℕ)
    (before now : Option (List ℕ)) : Type 0 where
  pub peer : Client
  pub decision : Decision
  pub told : client_of value ≡ Ok peer
  pub decided : DecidesAt stands path peer decision
  pub printed : Appends before now (answer_lines decision)

-- a variable is wrong; or a client is told, and there is no decision for it, or it could not be written; or memory runs out
abbrev pub FailsToTell : (value : List ℕ → Option (List ℕ)) → (stands : DirectoriesByPath) → (path : List ℕ) → CheckFault → Type 0
FailsToTell value stands path BadIp = client_of value ≡ Err BadIp
FailsToTell value stands path BadHost = client_of value ≡ Err BadHost
FailsToTell value stands path BadInfo = client_of value ≡ Err BadInfo
FailsToTell value stands path WriteFault =
    (peer : Client) × (client_of value ≡ Ok peer) × ((decision : Decision) × DecidesAt stands path peer decision)
FailsToTell value stands path OutOfMemory = ⊤
FailsToTell value stands path fault = (peer : Client) × (client_of value ≡ Ok peer) × FailsAt stands path peer fault

-- what a run does, from the variables and the folders to its answer and to what its writer holds
abbrev pub Checks : (value : List ℕ → Option (List ℕ)) → (stands : DirectoriesByPath) → (path : List ℕ)
    → (before now : Option (List ℕ)) → Result (Unit {0}) CheckFault → Type 0
Checks value stands path before now (Ok done) = Printed value stands path before now
Checks value stands path before now (Err fault) = FailsToTell value stands path fault

-- a run does this, and what it answers is told with the cause: what the folders tell of it, or the number that the writer noted
pub record TellsWithCause (Does : Result (Unit {0}) CheckFault → Type 0) (folders : Option ErrorCause) (writing : Option ℤ)
    (result : Result (Unit {0}) CheckFailure) : Type 0 where
  pub outcome : Result (Unit {0}) CheckFault
  pub does : Does outcome
  pub told : result ≡ check_failure_of outcome folders writing
