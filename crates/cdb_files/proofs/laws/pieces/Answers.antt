use Rattle.std.proofs.Common.{refl}
use Rattle.cdb_files.proofs.Joined.{written}
use Rattle.cdb_files.proofs.laws.pieces.Goals as goal

-- src/laws.rt:8:1
pub returns : goal.returns
returns c pairs fits = written pairs 256 refl fits
