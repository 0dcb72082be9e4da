-- Steps that a world takes, and steps that no world takes.
use Rattle.std.specs.Prelude.{◌≡◌, ◌≢◌, ◌<◌, ⊤, ℕ, Bool, true, List, [], ◌∷◌, ◌++◌, length, Option, Some, IfSome, is_some, Result, Ok, option_map}
use Rattle.dir_calls.specs.Directory.{Directory, FileState, scratch_of}
use Rattle.dir_calls.specs.NameTable.{push, puts}
use Rattle.dir_calls.specs.Calls.{Call}
use Rattle.dir_calls.specs.Images.{IsImage}
use Rattle.dir_calls.specs.Outcomes.{Passes, Fails}
use Rattle.cdb_files.specs.Reading.{reading}
use Rattle.rule_lookup.specs.Pairs.{Rule}
use Rattle.rule_lines.specs.Texts.{AreOfText}
use Rattle.rule_lookup.specs.Decisions.{decision_from}
use Rattle.rule_lookup.specs.Peers.{Client}
use Rattle.rule_lookup.specs.declared.decision.Decision.{Decision}
use Rattle.rule_lookup.specs.declared.decision.DecideFault.{DecideFault}
use Rattle.dir_calls.specs.declared.phase.Phase.{Phase}
use Rattle.server_events.specs.declared.event.Event.{Event}
use Rattle.server_events.specs.declared.event.Event.TheVariants.{Stop}
use Rattle.server_events.specs.declared.event.Stage.TheVariants as stage
use Rattle.headline.specs.Headline.{Reaches}
use Rattle.server_events.specs.Live.{concerns}
use Rattle.headline.specs.Steps.{IsCallTo, Legal, Outside, Step}
use Rattle.server_events.specs.ServerState.{Follows, HasStage, peer_of}
use Rattle.headline.specs.Worlds.{Accepted, RulesName, UnderWay, World, kept_by, missing_in, standing}

-- an event may happen in a world
abbrev pub CanStep : World → Event → Type 0
CanStep w event = (v : World) × Step w event v

-- an event may happen in a world and leave this directory
abbrev pub CanStepTo : World → Event → Directory → Type 0
CanStepTo w event d = (v : World) × Step w event v × (v.directory ≡ d)

-- others may leave this directory
abbrev pub CanBeChanged : World → Directory → Type 0
CanBeChanged w d = (v : World) × Outside w v × (v.directory ≡ d)

-- neither the rules name nor the scratch name of an installation under way
pub record IsOthers (w : World) (name : List ℕ) : Type 0 where
  pub not_rules : (r : RulesName) → w.rules ≡ Some r → r.name ≢ name
  pub not_scratch : (u : UnderWay) → w.under_way ≡ Some u → u.tmp ≢ name

-- a directory with a file of others under a name
abbrev pub with_others : Directory → List ℕ → FileState → Directory
with_others d name file = record { names = push d.names (puts name (length d.files)); files = d.files ++ file ∷ []; scratch = d.scratch }

-- an event never happens in a world
abbrev pub CannotStep : World → Event → Type 0
CannotStep w event = (v : World) → Step w event v → ⊥

-- an image of the directory at a moment within a call that may come next
pub record IsLeftWithin (w : World) (image : Directory) : Type 0 where
  pub phase : Phase
  pub follows : Follows w.server.phase phase
  pub call : Call
  pub is_call : IsCallTo phase w.under_way w.rules call
  pub state : Directory
  pub passes : Passes call w.directory state
  pub is_image : IsImage state image

-- a call that may come next, on the way to this phase, fails and leaves this directory
pub record MayFail (w : World) (phase : Phase) (d : Directory) : Type 0 where
  pub follows : Follows w.server.phase phase
  pub call : Call
  pub is_call : IsCallTo phase w.under_way w.rules call
  pub fails : Fails call w.directory d

-- a file stands under the rules name
abbrev pub is_there : World → Bool
is_there w = is_some (standing w)

-- what a file decides of a peer, or what is decided without one
abbrev pub decided_by : World → Option (List ℕ) → Client → Result Decision DecideFault
decided_by w bytes peer = decision_from (option_map reading bytes) (missing_in w) peer

-- what the connection with this serial opened makes this decision of its peer, and it is not decided yet
pub record IsDue (w : World) (n : ℕ) (decision : Decision) : Type 0 where
  pub opened : HasStage w.server n stage.Opened
  pub bytes : Option (List ℕ)
  pub kept : kept_by n w.kept ≡ Some bytes
  pub peer : Client
  pub is_its : peer_of n w.server.connections ≡ Some peer
  pub decides : decided_by w bytes peer ≡ Ok decision

-- the scratch file is too short for the pointers of a compiled file, or there is none
abbrev pub HasShortScratch : Directory → Type 0
HasShortScratch d = IfSome (scratch_of d) (λ file. length file.bytes < 2048)

-- the name of the scratch file is not the rules name
abbrev pub HaveOtherNames : Option RulesName → Option UnderWay → Type 0
HaveOtherNames (Some r) (Some u) = u.tmp ≢ r.name
HaveOtherNames rules under_way = ⊤

-- a stop in this world, and some time later an event of the connection n
pub record HappensAfterStop (w : World) (n : ℕ) : Type 0 where
  pub stopped : World
  pub stops : Step w Stop stopped
  pub events : List Event
  pub later : World
  pub goes_on : Legal stopped events later
  pub event : Event
  pub then : World
  pub step : Step later event then
  pub concerned : concerns n event ≡ true

-- a step that adds the rules of one accepted text to those accepted
abbrev pub AddsText : World → World → Type 0
AddsText w v = (rules : List Rule) × AreOfText rules × (v.accepted ≡ w.accepted ++ Some rules ∷ [])

-- a history leads from a start to a world that accepted these texts and acknowledged this one
abbrev pub LeadsTo : List Event → Accepted → ℕ → Type 0
LeadsTo history accepted acknowledged =
    (w : World) × Reaches history w × (w.accepted ≡ accepted) × (w.acknowledged ≡ acknowledged)
