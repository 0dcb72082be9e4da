use Rattle.std.proofs.Common.{sym}
use Rattle.std.proofs.Math.Nat.{mod-eq_of_lt}
use Rattle.cdb_files.proofs.cdb_file.turned.Goals as goal

pub returns-then-index-slots : goal.returns-then-index-slots
returns-then-index-slots c = sym (mod-eq_of_lt c.if-index-slots.true)
