use Rattle.dir_calls.proofs.OneName.{may_stood, stood_may}
use Rattle.dir_calls.proofs.laws.one_name.Goals as goal

pub returns : goal.returns
returns c table name number = (stood_may table name number, may_stood table name number)
