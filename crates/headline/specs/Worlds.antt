-- The world of a server and of the installations beside it: a directory, the rules that were accepted, and the connections.
use Rattle.std.specs.Prelude.{◌≡◌, ◌==◌, ◌≤◌, ℕ, true, List, [], ◌∷◌, slice_get, Option, Some, None, option_and_then, if◌then◌else◌}
use Rattle.std.specs.FinMap.{get}
use Rattle.dir_calls.specs.NameTable.{CanBeLeft, Names}
use Rattle.dir_calls.specs.Directory.{Directory, FileState, content}
use Rattle.cdb_files.specs.Compiled.{stored}
use Rattle.cdb_files.specs.IsCdb.{IsCdb}
use Rattle.rule_lookup.specs.Pairs.{Rule}
use Rattle.rule_lines.specs.Texts.{AreOfText}
use Rattle.rule_lookup.specs.Peers.{Client}
use Rattle.rule_lookup.specs.declared.decision.WhenMissing.{WhenMissing}
use Rattle.rule_lookup.specs.declared.decision.WhenMissing.TheVariants.{Allow as AllowMissing}
use Rattle.server_events.specs.ServerState.{ServerState, start}
use Rattle.server_events.specs.declared.state.Connection.{Connection}

-- The texts that were accepted, each by its rules. The first are those that stood at the start, or that a stop would
-- have left then; one of them may be that nothing stood there.
abbrev pub Accepted : Type 0
Accepted = List (Option (List Rule))

-- the name under which the server looks for its rules, and what it decides if no file stands there
pub record RulesName : Type 0 where
  pub name : List ℕ
  pub missing : WhenMissing

-- an installation that is under way: its rules, the number of its text among those accepted, and the name of its scratch file
pub record UnderWay : Type 0 where
  pub rules : List Rule
  pub number : ℕ
  pub tmp : List ℕ

-- what an opened connection keeps: the bytes of the file that it opened, or that there was none
pub record KeptFile : Type 0 where
  pub serial : ℕ
  pub bytes : Option (List ℕ)

pub record World : Type 0 where
  pub directory : Directory
  -- without a name the server follows no rules
  pub rules : Option RulesName
  -- the limits, the last serial, the connections with their peers and stages, and the phase of the installation under way
  pub server : ServerState
  pub accepted : Accepted
  -- the greatest number of a text whose installation was done, else 0
  pub acknowledged : ℕ
  pub under_way : Option UnderWay
  pub kept : List KeptFile

-- what stands under the rules name
abbrev pub standing : World → Option (List ℕ)
standing w = option_and_then (λ (r : RulesName). content w.directory r.name) w.rules

-- what the server decides without a file; without a rules name it allows
abbrev pub missing_by : Option RulesName → WhenMissing
missing_by None = AllowMissing
missing_by (Some r) = r.missing

abbrev pub missing_in : World → WhenMissing
missing_in w = missing_by w.rules

-- what the connection with this serial keeps, if it opened the rules
abbrev pub kept_by : ℕ → List KeptFile → Option (Option (List ℕ))
kept_by n [] = None
kept_by n (k ∷ ks) = if k.serial == n then Some k.bytes else kept_by n ks

-- a file is compiled of the rules of an accepted text
pub record IsOf (rules : List Rule) (file : List ℕ) : Type 0 where
  pub of_text : AreOfText rules
  pub compiled : IsCdb file (stored rules)

-- what may stand for an accepted text: a file that is compiled of it; for none, nothing
abbrev pub StandsFor : Option (List Rule) → Option (List ℕ) → Type 0
StandsFor None bytes = bytes ≡ None
StandsFor (Some rules) bytes = (file : List ℕ) × (bytes ≡ Some file) × IsOf rules file

-- one whole accepted text, no older than the last acknowledged
pub record IsAccepted (w : World) (bytes : Option (List ℕ)) : Type 0 where
  pub number : ℕ
  pub text : Option (List Rule)
  pub accepted : slice_get w.accepted number ≡ Some text
  pub recent : w.acknowledged ≤ number
  pub stands : StandsFor text bytes

-- the file with this number is synced and compiled of these rules
pub record HoldsRules (files : List FileState) (rules : List Rule) (number : ℕ) : Type 0 where
  pub file : List ℕ
  pub there : slice_get files number ≡ Some (record { bytes = file; synced = true })
  pub compiled : IsOf rules file

-- what stands for an accepted text: a file that holds its rules; for none, no file
abbrev pub StandsAt : List FileState → Option (List Rule) → Option ℕ → Type 0
StandsAt files None number = number ≡ None
StandsAt files (Some rules) number = (n : ℕ) × (number ≡ Some n) × HoldsRules files rules n

-- one of these texts stands under the name, whatever names a stop leaves, and each of them stands there among some
pub record BeginsWith (d : Directory) (name : List ℕ) (texts : Accepted) : Type 0 where
  pub each : (names : Names) → CanBeLeft d.names names → (number : ℕ) × (text : Option (List Rule)) × (slice_get texts number ≡ Some text)
      × StandsAt d.files text (get names name)
  pub only : (number : ℕ) (text : Option (List Rule)) → slice_get texts number ≡ Some text → (names : Names) × CanBeLeft d.names names
      × StandsAt d.files text (get names name)

-- the same of a server that follows rules
abbrev pub StartsWith : Directory → Option RulesName → Accepted → Type 0
StartsWith d None texts = texts ≡ None ∷ []
StartsWith d (Some r) texts = BeginsWith d r.name texts

-- no connection, nothing under way, and no other text than those that a stop may leave
pub record IsStart (w : World) : Type 0 where
  pub begins : StartsWith w.directory w.rules w.accepted
  pub server : w.server ≡ start w.server.limit w.server.per_address
  pub acknowledged : w.acknowledged ≡ 0
  pub under_way : w.under_way ≡ None
  pub kept : w.kept ≡ []
