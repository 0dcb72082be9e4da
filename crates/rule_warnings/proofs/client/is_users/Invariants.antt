use Rattle.std.proofs.Common.{◌≡◌, drop}
use Rattle.rule_warnings.specs.Clients.{has_user_after, is_users}
use Rattle.rule_warnings.proofs.client.is_users.Given as goal

abbrev pub invariant-loop-before : goal.invariant-loop-before
invariant-loop-before l = has_user_after l.before (drop l.before l.address) ≡ is_users l.address
