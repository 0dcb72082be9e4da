use Rattle.std.proofs.Common.{refl}
use Rattle.server_log.proofs.LogLemmas.{holds_as}
use Rattle.server_log.proofs.lines.Lines.add_cause.Goals as goal

pub returns-in-Some : goal.returns-in-Some
returns-in-Some c = λ lines holds.
    holds_as lines _ _ (rw (← c.cause.view_is, c.in-Some.is, c.in-Some.what-is, c.in-Some.why-is) refl) (c.add.ensures lines holds)
