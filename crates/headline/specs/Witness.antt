-- Histories in which texts are installed, the machine stops, an installer is killed, and connections are decided by different texts.
use Rattle.std.specs.Prelude.{◌≡◌, ◌≢◌, ℕ, true, List, [], ◌∷◌, Some, None}
use Rattle.rule_lookup.specs.Pairs.{Rule}
use Rattle.rule_lookup.specs.declared.instr.Verdict.{Verdict}
use Rattle.rule_lookup.specs.declared.instr.Verdict.TheVariants.{Allow, Deny}
use Rattle.rule_lookup.specs.Decisions.{by_rule}
use Rattle.rule_lookup.specs.Peers.{Client}
use Rattle.child_jobs.specs.declared.outcome.DropCause.TheVariants.{Denied}
use Rattle.dir_calls.specs.declared.phase.Phase.TheVariants.{Fresh, Filling, Synced, Named, Done}
use Rattle.server_events.specs.declared.event.Event.{Event}
use Rattle.server_events.specs.declared.event.Event.TheVariants.{Admitted, Opened, Decided, Started, Retired, Dropped, Stepped, StepFailed, Stop}
use Rattle.headline.specs.Processes.{Woven}
use Rattle.headline.specs.Steps.{Outside}
use Rattle.headline.specs.Worlds.{Accepted, IsStart, World}

-- the rules of a text with one line, for everybody
abbrev pub for_everybody : Verdict → List Rule
for_everybody verdict = record { address = []; instr = record { verdict = verdict; settings = [] } } ∷ []

abbrev pub somebody : Client
somebody = record { ip = 10 ∷ 0 ∷ 0 ∷ 1 ∷ []; port = 1024; host = None; info = None }

-- A text that denies is installed, and decides the first connection. One that allows is installed as far as its name, and the
-- machine stops within the call that makes this lasting; it decides the second connection, whose child is retired. Then the first
-- text is installed once more.
abbrev pub two_texts : List Event
two_texts =
    Stepped Fresh ∷ Stepped Filling ∷ Stepped Synced ∷ Stepped Named ∷ Stepped Done
    ∷ Admitted 1 somebody ∷ Opened 1 true ∷ Decided 1 (by_rule [] (record { verdict = Deny; settings = [] })) ∷ Dropped 1 Denied
    ∷ Stepped Fresh ∷ Stepped Filling ∷ Stepped Synced ∷ Stepped Named ∷ Stop
    ∷ Admitted 2 somebody ∷ Opened 2 true ∷ Decided 2 (by_rule [] (record { verdict = Allow; settings = [] })) ∷ Started 2 ∷ Retired 2
    ∷ Stepped Fresh ∷ Stepped Filling ∷ Stepped Synced ∷ Stepped Named ∷ Stepped Done ∷ []

-- the texts that it accepts
abbrev pub texts_of_it : Accepted
texts_of_it = None ∷ Some (for_everybody Deny) ∷ Some (for_everybody Allow) ∷ Some (for_everybody Deny) ∷ []

-- A history of a server whose first text allows. An installation is given up for one of a text that denies. The call
-- that should make that one's name lasting fails, and the text decides the first connection. The machine stops, and
-- leaves the older text, which decides the second connection. Then it stops once more.
abbrev pub an_older_text : List Event
an_older_text =
    Stepped Fresh ∷ Stepped Filling ∷ Stepped Fresh ∷ Stepped Filling ∷ Stepped Synced ∷ Stepped Named ∷ StepFailed Done
    ∷ Admitted 1 somebody ∷ Opened 1 true ∷ Decided 1 (by_rule [] (record { verdict = Deny; settings = [] })) ∷ Dropped 1 Denied
    ∷ Stop
    ∷ Admitted 2 somebody ∷ Opened 2 true ∷ Decided 2 (by_rule [] (record { verdict = Allow; settings = [] })) ∷ Started 2
    ∷ Stop ∷ []

-- the texts that it accepts: the one at the start, the one that was given up, and the one that was named
abbrev pub texts_of_that : Accepted
texts_of_that = Some (for_everybody Allow) ∷ Some (for_everybody Deny) ∷ Some (for_everybody Deny) ∷ []

-- A history of a server and of installers beside it. One installs a text that denies, and the first connection opens it. Another one installs a
-- text that allows, and is killed within its rename.
abbrev pub until_the_kill : List Event
until_the_kill =
    Stepped Fresh ∷ Stepped Filling ∷ Stepped Synced ∷ Stepped Named ∷ Stepped Done
    ∷ Admitted 1 somebody ∷ Opened 1 true
    ∷ Stepped Fresh ∷ Stepped Filling ∷ Stepped Synced ∷ StepFailed Named ∷ []

-- The first connection is decided by the older text, which it opened, and a second one by the newer.
abbrev pub behind_the_kill : List Event
behind_the_kill =
    Decided 1 (by_rule [] (record { verdict = Deny; settings = [] }))
    ∷ Admitted 2 somebody ∷ Opened 2 true ∷ Decided 2 (by_rule [] (record { verdict = Allow; settings = [] })) ∷ []

-- the texts that it accepts
abbrev pub texts_of_both : Accepted
texts_of_both = None ∷ Some (for_everybody Deny) ∷ Some (for_everybody Allow) ∷ []

-- Steps of a server and of installers by themselves, from a start: some, then one of others that changes the directory, and then others still.
pub record WovenAround (before behind : List Event) (accepted : Accepted) (acknowledged : ℕ) : Type 0 where
  pub begin : World
  pub starts : IsStart begin
  pub u : World
  pub woven : Woven begin before u
  pub v : World
  pub outside : Outside u v
  pub changed : v.directory ≢ u.directory
  pub w : World
  pub on : Woven v behind w
  pub accepts : w.accepted ≡ accepted
  pub acknowledges : w.acknowledged ≡ acknowledged
