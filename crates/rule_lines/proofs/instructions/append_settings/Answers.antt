-- One more setting was read, and its code added.
use Rattle.std.proofs.Common.{◌≡◌, arith, ◌∙◌}
use Rattle.rule_lines.proofs.ReadLemmas.{code_with-next}
use Rattle.rule_lines.proofs.instructions.append_settings.Goals as goal

pub loop-comma-preserved : goal.loop-comma-preserved
loop-comma-preserved c =
    let comma : c.in-Some.comma.now ≡ 44 = grind arith in
    rw c.in_ok-append_setting.ensures (code_with-next c.args.is_text c.loop-comma.code.items _ _ _ _ c.in-Some.ensures.cases.0 comma c.in-Some-first_setting.ensures.read ∙ c.loop-comma.invariant)
