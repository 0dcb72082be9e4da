-- A series of calls from a yard that was just made is a history of the headline.
use Rattle.std.proofs.Common.{◌≡◌, List, [], Option, None, refl, sym, subst}
use Rattle.rules_install.specs.Installing.{Installing}
use Rattle.headline.specs.Steps.{Legal, none, more}
use Rattle.headline.specs.Worlds.{IsStart, KeptFile, World}
use Rattle.server_events.specs.declared.event.Event.{Event}
use Rattle.whole_yard.specs.Standing.{HasUnderWay, IsNew, IsReachedBy, Matches, Series, YardState}
use Rattle.whole_yard.specs.Standing.Series.{none as no_call, more as one_more}

-- a series leads on from each world that is the yard's
pub goes_on : {y z : YardState} {files all : List KeptFile} {history : List Event} → Series y files history z all → (w : World)
    → Matches y files w → (v : World) × Legal w history v × Matches z all v
goes_on no_call w at = (w, none, at)
goes_on (one_more leads rest) w at =
    let next = leads w at in
    let end = goes_on rest next.0 next.2 in
    (end.0, more next.1 end.1, end.2)

-- the world of a yard that was just made
abbrev first_world : (y : YardState) → IsNew y → World
first_world y new = record {
  directory = y.directory;
  rules = y.rules;
  server = y.server;
  accepted = new.begins.texts;
  acknowledged = 0;
  under_way = None;
  kept = [];
}

pub reached : (y z : YardState) (files : List KeptFile) (history : List Event) → IsNew y → Series y [] history z files → IsReachedBy history z files
reached y z files history new series =
    let w = first_world y new in
    let begins : IsStart w = record {
      begins = new.begins.stand;
      server = new.empty;
      acknowledged = refl;
      under_way = refl;
      kept = refl;
    } in
    let at : Matches y [] w = record { directory = refl; rules = refl; server = refl; installing = idle y new.idle; kept = refl } in
    let end = goes_on series w at in
    (end.0, record { begin = w; starts = begins; legal = end.1 }, end.2)
  where
    idle : (x : YardState) → x.installing ≡ None → HasUnderWay (first_world y new) x.installing
    idle x is = subst (λ (o : Option Installing). HasUnderWay (first_world y new) o) (sym is) refl
