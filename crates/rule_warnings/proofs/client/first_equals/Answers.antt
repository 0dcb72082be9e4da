use Rattle.std.proofs.Common.{◌∙◌}
use Rattle.memchr.specs.Find.{is_byte}
use Rattle.rule_lookup.proofs.FoundLemmas.{position_or_len-search}
use Rattle.rule_warnings.proofs.client.first_equals.Goals as goal

pub returns-clause-value : goal.returns-clause-value
returns-clause-value c =
    c.unwrap_or.ensures ∙ position_or_len-search (is_byte 61) c.args.address.now c.memchr.result c.memchr.ensures
