use Rattle.headline.proofs.WholeText.{reached_whole}
use Rattle.headline.proofs.laws.whole_text.Goals as goal

pub returns : goal.returns
returns c history w reaches r is = reached_whole history w r reaches is
