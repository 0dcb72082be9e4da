use Rattle.dir_calls.proofs.Nameless.{any_bytes}
use Rattle.dir_calls.proofs.laws.nameless.Goals as goal

pub returns : goal.returns
returns c d number file bytes nameless = any_bytes d number file bytes nameless
