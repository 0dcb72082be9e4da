-- What a stop leaves is a start.
use Rattle.std.proofs.Common.{◌≡◌, ℕ, List, [], ◌∷◌, Option, Some, None, refl, sym, ap, subst, arith}
use Rattle.std.specs.Prelude.{slice_get, option_and_then}
use Rattle.dir_calls.specs.declared.phase.Phase.{Phase}
use Rattle.dir_calls.specs.Directory.{content, number_of}
use Rattle.server_events.specs.declared.event.Event.{Event}
use Rattle.server_events.specs.declared.event.Event.TheVariants.{Stop}
use Rattle.headline.specs.Again.{BeginsAgain}
use Rattle.headline.specs.Headline.{Reaches}
use Rattle.headline.specs.Steps.{Step}
use Rattle.headline.specs.Worlds.{RulesName, StandsFor, StartsWith, UnderWay, World}
use Rattle.headline.proofs.LeftNames.{left_now}
use Rattle.headline.proofs.StandingTexts.{IsText, begins_alone, content_stands}
use Rattle.headline.proofs.WholeText.{HoldsBy, good_moves, good_reached}

by_rules : (v : World) (limit per_address : ℕ) (rules : Option RulesName) (phase : Option Phase) (under_way : Option UnderWay)
    → v.rules ≡ rules → v.directory.names.pending ≡ [] → HoldsBy rules v.accepted v.acknowledged v.directory phase under_way → BeginsAgain v limit per_address
by_rules v limit per_address None phase under_way is none holds = record {
  number = 0;
  text = None;
  accepted = ap (λ texts. slice_get texts 0) holds.0;
  recent = omega (arith, holds.1);
  stands = ap (option_and_then (λ (r : RulesName). content v.directory r.name)) is;
  starts = record { begins = subst (λ (rules : Option RulesName). StartsWith v.directory rules (None ∷ [])) (sym is) refl; server = refl; acknowledged = refl; under_way = refl; kept = refl };
}
by_rules v limit per_address (Some r) phase under_way is none holds =
    let d = v.directory in
    let text = left_now d.names r.name (IsText v.accepted v.acknowledged d.files) holds.lasts in
    let there = content_stands d.files text.text (number_of d r.name) text.stands in
    record {
      number = text.position;
      text = text.text;
      accepted = text.accepted_as;
      recent = text.recent;
      stands = subst (λ (rules : Option RulesName). StandsFor text.text (option_and_then (λ (r : RulesName). content d r.name) rules)) (sym is) there;
      starts = record {
        begins = subst (λ (rules : Option RulesName). StartsWith d rules (text.text ∷ [])) (sym is) (begins_alone r.name d text.text none text.stands);
        server = refl;
        acknowledged = refl;
        under_way = refl;
        kept = refl;
      };
    }

pub begins_again : (history : List Event) (w v : World) (limit per_address : ℕ) → Reaches history w → Step w Stop v → BeginsAgain v limit per_address
begins_again history w v limit per_address reached step =
    by_rules v limit per_address v.rules v.server.phase v.under_way refl step.moves.0.2.none_pending
    (good_moves Stop w v step step.moves (good_reached history w reached))
