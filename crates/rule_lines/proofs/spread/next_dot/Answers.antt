use Rattle.std.proofs.Common.{◌==◌, not, ◌∙◌, arith}
use Rattle.std.proofs.lemmas.List.Sums.{prefix_len-le-length}
use Rattle.rule_lookup.proofs.FoundLemmas.{position_or_len-search}
use Rattle.rule_lines.proofs.spread.next_dot.Goals as goal

pub returns-clause-value : goal.returns-clause-value
returns-clause-value c = c.unwrap_or.ensures ∙ position_or_len-search (λ b. b == 46) c.args.bytes.now c.memchr.result c.memchr.ensures

pub returns-clause-within : goal.returns-clause-within
returns-clause-within c =
    let value = c.unwrap_or.ensures ∙ position_or_len-search (λ b. b == 46) c.args.bytes.now c.memchr.result c.memchr.ensures in
    omega (arith, value, prefix_len-le-length (λ b. not (b == 46)) c.args.bytes.now)
