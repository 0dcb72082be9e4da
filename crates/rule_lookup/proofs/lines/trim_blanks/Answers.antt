use Rattle.std.proofs.Common.{sym, ◌∙◌}
use Rattle.rule_lookup.proofs.LineLemmas.{trimmed_shorter, trimmed_same}
use Rattle.rule_lookup.proofs.lines.trim_blanks.Goals as goal

pub loop-trimmed-preserved : goal.loop-trimmed-preserved
loop-trimmed-preserved c = trimmed_shorter c.loop-trimmed.trimmed.now c.in-len1-up.len_at_least (sym c.if-is_blank.ensures) ∙ c.loop-trimmed.invariant

pub returns-else-is_blank : goal.returns-else-is_blank
returns-else-is_blank c = trimmed_same c.loop-trimmed.trimmed.now c.in-len1-up.len_at_least (sym c.if-is_blank.ensures) ∙ c.loop-trimmed.invariant
