use Rattle.headline.proofs.OlderText.{older_text_leads}
use Rattle.headline.proofs.laws.older.Goals as goal

pub returns : goal.returns
returns c = older_text_leads
