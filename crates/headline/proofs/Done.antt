-- Once an installation is done, whatever a stop leaves has its text.
use Rattle.std.proofs.Common.{◌≡◌, ◌≤◌, ◌+◌, ℕ, List, length, sym, ◌∙◌, ap, subst, arith}
use Rattle.std.specs.Prelude.{slice_get, Option, Some, max}
use Rattle.rule_lookup.specs.Pairs.{Rule}
use Rattle.dir_calls.specs.declared.phase.Phase.{Phase}
use Rattle.dir_calls.specs.declared.phase.Phase.TheVariants.{Done}
use Rattle.dir_calls.specs.Directory.{Directory, content}
use Rattle.headline.specs.Headline.{Reaches}
use Rattle.server_events.specs.declared.event.Event.{Event}
use Rattle.server_events.specs.declared.event.Event.TheVariants.{Stepped}
use Rattle.headline.specs.Steps.{MayLeave, Step}
use Rattle.server_events.specs.ServerState.{Follows, done}
use Rattle.headline.specs.Worlds.{Accepted, IsAccepted, IsOf, RulesName, StandsFor, UnderWay, World}
use Rattle.headline.proofs.Openings.{moves_same, reaches_next}
use Rattle.server_events.proofs.Effects.{may_come_follows, step_is}
use Rattle.headline.proofs.WholeText.{Agree, good_reached, good_rules, position_below, reached_whole}

-- the number of the text under way is the last one, and is its
record IsLast (accepted : Accepted) (u : UnderWay) : Type 0 where
  its : slice_get accepted u.number ≡ Some (Some u.rules)
  last : u.number + 1 ≡ length accepted

last_of : (accepted : Accepted) (least : ℕ) (name : List ℕ) (d : Directory) (phase : Option Phase) (u : UnderWay) → Follows phase Done → Agree accepted least name d phase (Some u) → IsLast accepted u
last_of accepted least name d phase u done goes = record { its = goes.its; last = goes.last }

-- a text that is no older than the last one is that one
only_last : (accepted : Accepted) (u : UnderWay) (number : ℕ) (text : Option (List Rule)) → IsLast accepted u → u.number ≤ number → slice_get accepted number ≡ Some text → text ≡ Some u.rules
only_last accepted u number text is recent found =
    let below = position_below accepted number text found in
    let last = is.last in
    let same : number ≡ u.number = omega (arith, below, last, recent) in
    let at_it = subst (λ (k : ℕ). slice_get accepted k ≡ Some text) same found in
    let its = is.its in
    cc

-- After the last step of an installation whatever a stop leaves has its text under the rules name.
pub done_stands : (history : List Event) (w v : World) (r : RulesName) (u : UnderWay) → Reaches history w → w.rules ≡ Some r → w.under_way ≡ Some u → Step w (Stepped Done) v
    → (image : Directory) → MayLeave v image → (file : List ℕ) × (content image r.name ≡ Some file) × IsOf u.rules file
done_stands history w v r u reaches is goes step image leaves =
    let happened = step_is step.table in
    let holds = good_rules w r is (good_reached history w reaches) in
    let agree = subst (λ (o : Option UnderWay). Agree w.accepted w.acknowledged r.name w.directory w.server.phase o) goes holds.agree in
    let last = last_of w.accepted w.acknowledged r.name w.directory w.server.phase u (may_come_follows w.server.phase Done happened.0) agree in
    let moves = step.moves in
    let ruled : v.rules ≡ Some r = (moves_same (Stepped Done) w v moves).1 ∙ is in
    let accepted : v.accepted ≡ w.accepted = ap (λ (x : World). x.accepted) moves.3 in
    let number : moves.0.number ≡ u.number = (let it : moves.0 ≡ u = (let a = moves.1 in cc) in ap (λ (x : UnderWay). x.number) it) in
    let acknowledged : v.acknowledged ≡ max w.acknowledged moves.0.number = ap (λ (x : World). x.acknowledged) moves.3 in
    let stood : IsAccepted v (content image r.name) = (reached_whole _ v r (reaches_next history w v (Stepped Done) reaches step) ruled).after_a_stop image leaves in
    let recent = stood.recent in
    let no_older : u.number ≤ stood.number = omega (arith, recent, acknowledged, number) in
    let text : stood.text ≡ Some u.rules = only_last w.accepted u stood.number stood.text last no_older (ap (λ (a : Accepted). slice_get a stood.number) (sym accepted) ∙ stood.accepted) in
    subst (λ (t : Option (List Rule)). StandsFor t (content image r.name)) text stood.stands
