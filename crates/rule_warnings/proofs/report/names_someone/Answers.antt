use Rattle.std.proofs.Common.{◌≡◌, ◌∙◌, ◌||◌, length, ap, arith, List, ℕ}
use Rattle.std.specs.List.{list_any}
use Rattle.rule_lookup.specs.Lines.{trimmed}
use Rattle.rule_warnings.specs.Names.{names_host}
use Rattle.rule_warnings.specs.Warnings.{trimmed_lines}
use Rattle.rule_warnings.proofs.ReportLemmas.{named-all, named-more}
use Rattle.rule_warnings.proofs.report.names_someone.Goals as goal

pub loop-rest-preserved : goal.loop-rest-preserved
loop-rest-preserved c =
    let (line, after) = c.first_line.result in
    let (ended, cut) = c.first_line.ensures.lines in
    let found = c.named_by-named.ensures ∙ ap (λ (l : List ℕ). c.loop-rest.named || names_host l) c.trim_blanks.ensures in
    named-more c.loop-rest.named c.named_by-named.result (list_any names_host (trimmed_lines c.args.text.now)) c.loop-rest.rest.now line.now after.now ended cut found c.loop-rest.invariant

pub returns : goal.returns
returns c =
    let none : length c.loop-rest.rest.now ≡ 0 = grind (arith, c.is_empty.ensures, c.loop-rest-test.false) in
    named-all c.loop-rest.named (list_any names_host (trimmed_lines c.args.text.now)) c.loop-rest.rest.now none c.loop-rest.invariant
