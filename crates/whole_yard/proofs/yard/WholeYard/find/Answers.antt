use Rattle.std.proofs.Common.{List, ℕ, Option, inr, refl, sym, ap, subst, ◌∙◌}
use Rattle.std.specs.Prelude.{option_and_then}
use Rattle.headline.specs.Worlds.{RulesName}
use Rattle.dir_calls.specs.Directory.{Directory, content}
use mathlib.Core.Logic.{∥∥₁_map}
use Rattle.server_yard.specs.Yards.{yard_server}
use Rattle.whole_yard.specs.Installed.{IsWholeFile}
use Rattle.whole_yard.specs.Kept.{installing_of, rules_of}
use Rattle.whole_yard.specs.Standing.{YardState}
use Rattle.whole_yard.proofs.Keeping.{if_ok, none_not_some, stands_whole}
use Rattle.whole_yard.proofs.Opened.{left_by_opening}
use Rattle.whole_yard.proofs.yard.WholeYard.find.Goals as goal

pub returns-in-Some-clause-found : goal.returns-in-Some-clause-found
returns-in-Some-clause-found g c = λ honest.
    let old = c.args.self.now in
    if_ok c.open.result (c.open.ensures.opened honest) (λ file is.
    is ∙ sym (ap (λ o. option_and_then (λ (r : RulesName). content (g.D.Dir.state old.dir) r.name) o) (ap rules_of c.in-Some.is)))

pub returns-in-Some-clause-whole : goal.returns-in-Some-clause-whole
returns-in-Some-clause-whole g c = λ met.
    let old = c.args.self.now in
    if_ok c.open.result (c.open.ensures.opened (old.honest met)) (λ file is.
    ∥∥₁_map (old.installed met) (λ k. subst (λ (o : Option (List ℕ)). IsWholeFile o) (sym is) (stands_whole k _ (ap rules_of c.in-Some.is))))

pub returns-in-Some-clause-state : goal.returns-in-Some-clause-state
returns-in-Some-clause-state g c = λ honest.
    let old = c.args.self.now in
    ap (λ (d : Directory). let y : YardState = record { directory = d; rules = rules_of old.rules; server = yard_server old.yard; installing = installing_of old.installation } in y) (c.open.ensures.same honest)

pub returns-in-Some-clause-stops : goal.returns-in-Some-clause-stops
returns-in-Some-clause-stops g c = λ honest files w image at left.
    let old = c.args.self.now in
    let d = g.D.Dir in
    inr (left_by_opening d.state d.moment d.left_since old.dir c.open.new.self (λ i l. g.met.D.Dir.only_now old.dir i honest l) (c.open.ensures.time honest) (c.open.ensures.same honest) image left)

pub returns-in-Some-clause-without : goal.returns-in-Some-clause-without
returns-in-Some-clause-without g c = λ none. absurd (none_not_some _ (sym none ∙ ap rules_of c.in-Some.is))

pub returns-in-Some-clause-roll : goal.returns-in-Some-clause-roll
returns-in-Some-clause-roll g c = refl

pub returns-in-Some-clause-same : goal.returns-in-Some-clause-same
returns-in-Some-clause-same g c = record { rules = refl; installing = refl; kept = refl; begun = refl; lists_same = refl }

pub returns-in-Some-clause-seats : goal.returns-in-Some-clause-seats
returns-in-Some-clause-seats g c = λ i. refl

pub returns-in-None-clause-found : goal.returns-in-None-clause-found
returns-in-None-clause-found g c = λ honest.
    let old = c.args.self.now in
    sym (ap (λ o. option_and_then (λ (r : RulesName). content (g.D.Dir.state old.dir) r.name) o) (ap rules_of c.in-None.is))

pub returns-in-None-clause-stops : goal.returns-in-None-clause-stops
returns-in-None-clause-stops g c = λ honest files w image at left. inr (g.met.D.Dir.only_now c.args.self.now.dir image honest left)

pub returns-in-None-clause-state : goal.returns-in-None-clause-state
returns-in-None-clause-state g c = λ honest. refl

pub returns-in-None-clause-counted : goal.returns-in-None-clause-counted
returns-in-None-clause-counted g c = refl

pub returns-in-None-clause-without : goal.returns-in-None-clause-without
returns-in-None-clause-without g c = λ none. refl

pub returns-in-None-clause-roll : goal.returns-in-None-clause-roll
returns-in-None-clause-roll g c = refl

pub returns-in-None-clause-same : goal.returns-in-None-clause-same
returns-in-None-clause-same g c = record { rules = refl; installing = refl; kept = refl; begun = refl; lists_same = refl }

pub returns-in-None-clause-seats : goal.returns-in-None-clause-seats
returns-in-None-clause-seats g c = λ i. refl
