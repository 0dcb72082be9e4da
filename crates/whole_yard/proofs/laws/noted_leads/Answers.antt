use Rattle.whole_yard.proofs.Matching.{decided_leads, opened_leads, plain_leads}
use Rattle.whole_yard.proofs.laws.noted_leads.Goals as goal

pub returns : goal.returns
returns c = record {
  plain = λ y event old new plain noted. plain_leads y event old new plain noted;
  opened = λ y n bytes old new found noted. opened_leads y n bytes old new found noted;
  decided = λ y n bytes decision peer old new its by_it noted. decided_leads y n bytes decision peer old new its by_it noted;
}
