-- A line with a colon that does not begin with `#` is a rule, and every other line is ignored.
use Rattle.std.proofs.Common.{◌==◌, refl, sym}
use Rattle.std.proofs.lemmas.Bool.{cond-true}
use Rattle.rule_lookup.specs.Pairs.{is_ignored}
use Rattle.rule_lookup.proofs.FoundLemmas.{position_or_len-found}
use Rattle.rule_lines.proofs.FaultLemmas.{is_ignored-nowhere}
use Rattle.rule_lines.proofs.KeepLemmas.{IsKeptOf-none}
use Rattle.rule_lines.proofs.text.keep_line.Goals as goal

pub keep_rule-requires-clause-first : goal.keep_rule-requires-clause-first
keep_rule-requires-clause-first c = sym (position_or_len-found (λ b. b == 58) c.args.line.now c.in-Some.colon c.in-Some.ensures)

pub returns-in_default-2-clause-faultless : goal.returns-in_default-2-clause-faultless
returns-in_default-2-clause-faultless c = cond-true (is_ignored c.args.line.now) _ _ (is_ignored-nowhere c.args.line.now c.in_default.ensures)

pub returns-in_default-2-clause-kept : goal.returns-in_default-2-clause-kept
returns-in_default-2-clause-kept c = IsKeptOf-none c.args.line.now c.clear.new.self.items _ refl refl c.clear.ensures.items (is_ignored-nowhere c.args.line.now c.in_default.ensures)
