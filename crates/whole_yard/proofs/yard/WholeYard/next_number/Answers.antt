use Rattle.std.proofs.Common.{refl, sym, ◌∙◌, arith}
use Rattle.rules_install.specs.Installs.{installing}
use Rattle.whole_yard.proofs.Keeping.{unstepped}
use Rattle.whole_yard.proofs.yard.WholeYard.next_number.Goals as goal

pub returns-then-is_for_rules-clause-some : goal.returns-then-is_for_rules-clause-some
returns-then-is_for_rules-clause-some g c =
    let s = installing c.args.install.now in
    let not = unstepped s.reached s.over (sym c.stepped.ensures ∙ c.if-stepped.false) in
    (record { unbegun = not.0; is_open = not.1; for_rules = c.is_for_rules.ensures.0 c.if-is_for_rules.true; numbers_left = (let other = c.if-self.false in grind (arith, other)) }, refl)
