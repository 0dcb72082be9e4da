-- What the headline says.
use Rattle.std.specs.Prelude.{◌≡◌, ◌++◌, ◌∷◌, ℕ, Bool, List, Option, Some, None}
use Rattle.dir_calls.specs.Directory.{Directory, content, number_of}
use Rattle.rule_lookup.specs.Pairs.{Rule}
use Rattle.rule_lookup.specs.Decisions.{decision_in, without_file}
use Rattle.rule_lookup.specs.Peers.{Client}
use Rattle.rule_lookup.specs.declared.decision.Decision.{Decision}
use Rattle.dir_calls.specs.declared.phase.Phase.TheVariants.{Done}
use Rattle.child_jobs.specs.Child.{environment_of}
use Rattle.child_jobs.specs.Ends.{LocalEnd}
use Rattle.child_jobs.specs.Variables.{Variables}
use Rattle.server_events.specs.ServerState.{peer_of}
use Rattle.server_events.specs.declared.event.Event.{Event}
use Rattle.server_events.specs.declared.event.Event.TheVariants.{Opened, Decided, Stepped}
use Rattle.server_events.specs.Live.{KeepsLimit}
use Rattle.headline.specs.Steps.{Legal, MayLeave, Step}
use Rattle.headline.specs.Worlds.{IsAccepted, IsOf, IsStart, RulesName, UnderWay, World, missing_in, standing}

-- a list of events that leads from a start to a world
pub record Reaches (history : List Event) (w : World) : Type 0 where
  pub begin : World
  pub starts : IsStart begin
  pub legal : Legal begin history w

-- Under the rules name stands one whole accepted text, no older than the last acknowledged: now, and in whatever a stop
-- may leave before, after or within any call that may come next. If nothing stands there, the name is missing.
pub record HasWholeText (w : World) (r : RulesName) : Type 0 where
  pub now : IsAccepted w (content w.directory r.name)
  pub after_a_stop : (image : Directory) → MayLeave w image → IsAccepted w (content image r.name)
  pub missing : (image : Directory) → MayLeave w image → content image r.name ≡ None → number_of image r.name ≡ None

-- the same of a server that follows rules, whatever its rules name
abbrev pub LeavesWholeText : World → Type 0
LeavesWholeText w = (r : RulesName) → w.rules ≡ Some r → HasWholeText w r

-- the decision of what a text says, or of no text
abbrev pub decision_by : Option (List Rule) → World → Client → Decision
decision_by None w peer = without_file (missing_in w)
decision_by (Some rules) w peer = decision_in rules peer

-- a peer was decided by the text that stood in a world; and so what its child is told is what that text says
pub record IsDecidedAt (w : World) (peer : Client) (decision : Decision) : Type 0 where
  pub stood : IsAccepted w (standing w)
  pub decides : decision ≡ decision_by stood.text w peer
  pub tells : (inherited : Variables) (local : LocalEnd)
      → environment_of inherited local peer decision ≡ environment_of inherited local peer (decision_by stood.text w peer)

-- A connection opened the rules in the world u, and was decided in the world x, some events later.
pub record OpensAndDecides (n : ℕ) (u : World) (x : World) (decision : Decision) : Type 0 where
  pub there : Bool
  pub opened : World
  pub between : List Event
  pub decided : World
  pub opens : Step u (Opened n there) opened
  pub goes_on : Legal opened between x
  pub decides : Step x (Decided n decision) decided

-- A decision at the end of a history has its opening in it: the world u in which the connection opened the rules is reached by the
-- events before, and the decision is by the text that stood there.
pub record HasItsOpening (history : List Event) (n : ℕ) (x : World) (decision : Decision) : Type 0 where
  pub before : List Event
  pub u : World
  pub reached : Reaches before u
  pub opens : OpensAndDecides n u x decision
  pub is_history : history ≡ before ++ Opened n opens.there ∷ opens.between
  pub peer : Client
  pub is_its : peer_of n u.server.connections ≡ Some peer
  pub by_it : IsDecidedAt u peer decision

-- Each decision that may be next is by the text that stood when its connection opened the rules, whichever opening
-- before it that was.
abbrev pub DecidesByWhatStood : World → Type 0
DecidesByWhatStood x =
    (before : List Event) (u : World) (n : ℕ) (peer : Client) (decision : Decision) → Reaches before u
    → OpensAndDecides n u x decision → peer_of n u.server.connections ≡ Some peer → IsDecidedAt u peer decision

-- Each decision that may be next has its opening in the history.
abbrev pub HaveTheirOpenings : List Event → World → Type 0
HaveTheirOpenings history x =
    (n : ℕ) (decision : Decision) (y : World) → Step x (Decided n decision) y → HasItsOpening history n x decision

-- Whatever installations, connections, child faults and stops came in any order: a stop before or within any call of the directory leaves
-- the rules file compiled of one whole accepted text, no older than the last acknowledged; each decision and its environment are
-- by the first matching address of the text that stood there when its file was opened; and those alive never passed the limit.
pub record IsKeptBy (history : List Event) (w : World) : Type 0 where
  pub whole_text : LeavesWholeText w
  pub decisions : HaveTheirOpenings history w
  pub by_what_stood : DecidesByWhatStood w
  pub limit : KeepsLimit w.server.limit history

-- the last step of an installation, in a world that is reached from a start
pub record Finishes (w v : World) (r : RulesName) (u : UnderWay) : Type 0 where
  pub history : List Event
  pub reached : Reaches history w
  pub rules : w.rules ≡ Some r
  pub under_way : w.under_way ≡ Some u
  pub step : Step w (Stepped Done) v

-- whatever a stop leaves, before or within the next call, has a file under this name that is compiled of these rules
abbrev pub SurelyHas : World → List ℕ → List Rule → Type 0
SurelyHas v name rules =
    (image : Directory) → MayLeave v image → (file : List ℕ) × (content image name ≡ Some file) × IsOf rules file
