use Rattle.std.proofs.Common.{drop, sym, ◌∙◌}
use Rattle.rule_warnings.proofs.UserLemmas.{has_user_after-far}
use Rattle.rule_warnings.proofs.client.is_users.Goals as goal

pub returns-then-before-gt255 : goal.returns-then-before-gt255
returns-then-before-gt255 c =
    sym (has_user_after-far c.loop-before.before (drop c.loop-before.before c.args.address.now) c.if-before-gt255.true) ∙ c.loop-before.invariant
