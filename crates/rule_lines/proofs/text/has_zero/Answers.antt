use Rattle.std.proofs.Common.{◌∙◌}
use Rattle.memchr.specs.Find.{is_byte}
use Rattle.rule_lookup.proofs.FoundLemmas.{list_any-search}
use Rattle.rule_lines.proofs.text.has_zero.Goals as goal

pub returns-then-not-plain : goal.returns-then-not-plain
returns-then-not-plain c = c.is_some.ensures ∙ list_any-search (is_byte 0) c.args.bytes.now c.memchr.result c.memchr.ensures
