use Rattle.std.proofs.Common.{refl}
use Rattle.server_log.proofs.LogLemmas.{holds_as}
use Rattle.server_log.proofs.lines.Lines.add_status.Goals as goal

pub returns : goal.returns
returns c = λ lines holds. holds_as lines _ _ (rw c.status_line.ensures refl) (c.add.ensures lines holds)
