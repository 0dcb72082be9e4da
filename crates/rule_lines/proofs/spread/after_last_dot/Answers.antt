use Rattle.std.proofs.Common.{sym, ◌==◌}
use Rattle.rule_lookup.proofs.FoundLemmas.{suffix_len-found, suffix_len-nowhere}
use Rattle.rule_lines.proofs.spread.after_last_dot.Goals as goal

pub returns-in-Some : goal.returns-in-Some
returns-in-Some c = sym (suffix_len-found (λ b. b == 46) c.args.bytes.now c.in-Some.dot c.in-Some.ensures)

pub returns-in-None : goal.returns-in-None
returns-in-None c = sym (suffix_len-nowhere (λ b. b == 46) c.args.bytes.now c.in-None.ensures)
