use Rattle.std.proofs.Common.{◌≡◌, ◌∙◌, sym, arith}
use Rattle.rule_warnings.proofs.NameLemmas.{blank_with, blank_with-next, or_none}
use Rattle.rule_warnings.proofs.settings.blank_among.Goals as goal

pub loop-comma-preserved : goal.loop-comma-preserved
loop-comma-preserved c =
    let comma : c.in-Some.comma.now ≡ 44 = grind arith in
    rw c.found_in-found.ensures (blank_with-next c.loop-comma.found _ _ _ _ c.in-Some.ensures.cases.0 comma c.in-Some-first_setting.ensures.read ∙ c.loop-comma.invariant)
