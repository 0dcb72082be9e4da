use Rattle.cdb_files.proofs.SameBytes.{same_file}
use Rattle.cdb_files.proofs.laws.same_file.Goals as goal

pub returns : goal.returns
returns c a b pairs bytes bytes' wa wb = same_file pairs a b bytes bytes' wa wb
