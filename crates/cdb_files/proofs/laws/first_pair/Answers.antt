use Rattle.cdb_files.proofs.AnyKey.{reading_is}
use Rattle.cdb_files.proofs.laws.first_pair.Goals as goal

pub returns : goal.returns
returns c file key pairs cdb = reading_is file pairs cdb key
