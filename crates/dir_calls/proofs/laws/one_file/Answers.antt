use Rattle.dir_calls.proofs.Torn.{same_file}
use Rattle.dir_calls.proofs.laws.one_file.Goals as goal

pub returns : goal.returns
returns c d from to same = same_file d from to same
