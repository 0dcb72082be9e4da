use Rattle.headline.proofs.TwoTexts.{two_texts_lead}
use Rattle.headline.proofs.laws.witness.Goals as goal

pub returns-clause-leads : goal.returns-clause-leads
returns-clause-leads c = (two_texts_lead.0, two_texts_lead.1, two_texts_lead.2, two_texts_lead.3)

pub returns-clause-retired : goal.returns-clause-retired
returns-clause-retired c = two_texts_lead.4
