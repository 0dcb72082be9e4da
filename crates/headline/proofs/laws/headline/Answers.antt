use Rattle.headline.proofs.AllowedSteps.{reached_within}
use Rattle.headline.proofs.Openings.{decided_by_standing, has_its_opening}
use Rattle.headline.proofs.WholeText.{reached_whole}
use Rattle.headline.proofs.laws.headline.Goals as goal

pub returns : goal.returns
returns c history w reaches = record {
  whole_text = λ r is. reached_whole history w r reaches is;
  decisions = λ n decision y step. has_its_opening history w y n decision reaches step;
  by_what_stood = λ before u n peer decision first opens its. decided_by_standing before u first n w decision opens peer its;
  limit = λ k. reached_within history w reaches k;
}
