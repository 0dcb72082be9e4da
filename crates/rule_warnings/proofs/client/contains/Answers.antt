use Rattle.std.proofs.Common.{◌∙◌}
use Rattle.memchr.specs.Find.{is_byte}
use Rattle.rule_lookup.proofs.FoundLemmas.{list_any-search}
use Rattle.rule_warnings.proofs.client.contains.Goals as goal

pub returns : goal.returns
returns c = c.is_some.ensures ∙ list_any-search (is_byte c.args.byte) c.args.bytes.now c.memchr.result c.memchr.ensures
