-- An opening that a yard is told of later.
use Rattle.std.proofs.Common.{◌≡◌, ℕ, List, ◌∷◌, Option, None, Some, refl, sym, ap, subst, ◌∙◌}
use Rattle.std.specs.Prelude.{is_some, option_and_then}
use Rattle.dir_calls.specs.Directory.{Directory, content}
use Rattle.rules_install.specs.Installing.{Installing}
use Rattle.headline.specs.Headline.{Reaches}
use Rattle.headline.specs.Processes.{Woven, of_server}
use Rattle.server_events.specs.ServerState.{ServerState, stage_of}
use Rattle.headline.specs.Steps.{Legal, none, more, beside}
use Rattle.headline.specs.Worlds.{KeptFile, RulesName, World, kept_by, standing}
use Rattle.server_events.specs.declared.event.Event.{Event}
use Rattle.server_events.specs.declared.event.Event.TheVariants.{Opened}
use Rattle.server_events.specs.declared.event.Stage.TheVariants as stage
use Rattle.whole_yard.proofs.OpenedBefore.{opens_at_once}
use Rattle.headline.proofs.Openings.{moves_same}
use Rattle.server_events.proofs.Effects.{step_is}
use Rattle.headline.proofs.WovenSteps.{one_history}
use Rattle.whole_yard.specs.Serving.{IsServers, over}
use Rattle.whole_yard.specs.Standing.{HasUnderWay, LeadsOpened, Matches, YardState, standing_of}
use Rattle.whole_yard.specs.Telling.{AreApart, ToldLater}

-- the rules name stays
rules_stay : {u w : World} {events : List Event} → Legal u events w → w.rules ≡ u.rules
rules_stay none = refl
rules_stay (more {u} {v} {w} {event} {events} step rest) = rules_stay rest ∙ (moves_same event u v step.moves).1
rules_stay (beside {u} {v} {w} {events} out rest) = rules_stay rest ∙ ap (λ (x : World). x.rules) out.moves

-- what is under way is so over each directory
under_way_over : (w : World) (d : Directory) (o : Option Installing) → HasUnderWay w o → HasUnderWay (record w { directory = d }) o
under_way_over w d None has = has
under_way_over w d (Some s) has = record { number = has.number; under_way = has.under_way; phase = has.phase }

-- where nothing is under way in one world it is so in another
pub nothing_under_way : (v w : World) (o : Option Installing) → v.under_way ≡ None → w.under_way ≡ None → HasUnderWay v o → HasUnderWay w o
nothing_under_way v w None idle also has = also
nothing_under_way v w (Some s) idle also has = absurd (let never = sym idle ∙ has.under_way in cc)

pub told_later : (history events : List Event) (u w : World) (y z : YardState) (files : List KeptFile) (n : ℕ) (bytes : Option (List ℕ))
    → Reaches history u
    → stage_of n u.server.connections ≡ Some stage.Admitted → Woven u events w → AreApart n events → IsServers y files w
    → bytes ≡ standing_of (over y u.directory)
    → LeadsOpened n bytes (over y u.directory) (over z u.directory) → ToldLater n bytes u events files z
told_later history events u w y z files n bytes reaches waits woven apart at found leads =
    let at_once = opens_at_once history u w events n reaches waits woven apart in
    let here : World = record (of_server w) { directory = u.directory } in
    let its : Matches (over y u.directory) files here = record {
      directory = refl;
      rules = at.rules;
      server = at.server;
      installing = under_way_over (of_server w) u.directory y.installing at.installing;
      kept = at.kept;
    } in
    let next = leads files here its in
    let moves = next.1.moves in
    let v = at_once.v in
    let is : bytes ≡ standing u =
    found ∙ ap (λ (o : Option RulesName). option_and_then (λ (r : RulesName). content u.directory r.name) o) (sym at.rules ∙ rules_stay (one_history woven)) in
    record {
      v = v;
      woven = subst (λ (o : Option (List ℕ)). Woven u (Opened n (is_some o) ∷ events) v) (sym is) at_once.woven;
      more = v.kept;
      its = record {
        directory = refl;
        rules = ap (λ (x : World). x.rules) at_once.same ∙ sym (ap (λ (x : World). x.rules) moves.1) ∙ next.2.rules;
        server = ap (λ (s : ServerState). record s { phase = None }) at_once.server ∙ sym (step_is next.1.table).1 ∙ next.2.server;
        installing = nothing_under_way next.0 (of_server v) z.installing (ap (λ (x : World). x.under_way) moves.1) refl next.2.installing;
        kept = refl;
      };
      keeps = at_once.keeps ∙ ap (λ (o : Option (List ℕ)). Some o) (sym is);
      others = λ m other. at_once.others m other ∙ ap (λ (ks : List KeptFile). kept_by m ks) at.kept;
    }
