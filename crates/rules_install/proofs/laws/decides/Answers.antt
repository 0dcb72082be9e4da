use Rattle.std.proofs.Common.{◌∙◌, ap}
use Rattle.rule_lookup.specs.Pairs.{pairs_of}
use Rattle.rule_lines.proofs.KnownLemmas.{AreRules-accepted}
use Rattle.rule_lookup.specs.Decisions.{decision_by}
use Rattle.rule_lookup.proofs.ListedLemmas.{decision_by-listed}
use Rattle.cdb_files.specs.Compiled.{stored}
use Rattle.cdb_files.proofs.AnyKey.{reading_is}
use Rattle.cdb_files.proofs.StoredRules.{first_value-stored}
use Rattle.rules_install.proofs.laws.decides.Goals as goal

pub returns : goal.returns
returns c limits file text peer accepted compiled =
    ap (λ finds. decision_by finds peer) (λ i address. (reading_is file (stored (pairs_of text)) compiled address ∙ first_value-stored (pairs_of text) address) i)
    ∙ decision_by-listed (pairs_of text) peer (AreRules-accepted limits text accepted)
