-- The rules that are kept are those of the text.
use Rattle.std.proofs.Common.{sym, ap, ◌∙◌, arith}
use Rattle.rule_lines.specs.Kept.{rules_in}
use Rattle.rule_lines.proofs.KnownLemmas.{accepted_from}
use Rattle.rule_lines.proofs.text.parse_owned.Goals as goal

pub new-requires-clause-of_text : goal.new-requires-clause-of_text
new-requires-clause-of_text c = ∣ record {
  limits = c.args.limits.now;
  text = c.args.text.items;
  accepted = accepted_from c.args.limits.now c.args.text.items (omega arith) c.in_ok-tally.ensures.faultless;
  says = sym (ap rules_in c.shrink_to_fit.ensures.items ∙ c.in_ok-tally.ensures.kept.rules);
} ∣₁
