use Rattle.headline.specs.Headline.{Reaches}
use Rattle.headline.proofs.AllowedSteps.{reached_within}
use Rattle.headline.proofs.Openings.{decided_by_standing, has_its_opening}
use Rattle.headline.proofs.WholeText.{reached_whole}
use Rattle.headline.proofs.WovenSteps.{its_parts, one_history}
use Rattle.headline.proofs.laws.two_processes.Goals as goal

pub returns-clause-one : goal.returns-clause-one
returns-clause-one c w v history woven = one_history woven

pub returns-clause-parts : goal.returns-clause-parts
returns-clause-parts c w v history legal = its_parts legal

pub returns-clause-headline : goal.returns-clause-headline
returns-clause-headline c w v history starts woven =
    let reaches : Reaches history v = record { begin = w; starts = starts; legal = one_history woven } in
    record {
      whole_text = λ r is. reached_whole history v r reaches is;
      decisions = λ n decision y step. has_its_opening history v y n decision reaches step;
      by_what_stood = λ before u n peer decision first opens its. decided_by_standing before u first n v decision opens peer its;
      limit = λ k. reached_within history v reaches k;
    }
