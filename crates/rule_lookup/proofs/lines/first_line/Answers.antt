use Rattle.std.proofs.Common.{true, false, length, refl, inl, inr, ◌∙◌, arith}
use Rattle.std.proofs.lemmas.List.{drop_all, take_rest}
use Rattle.memchr.specs.Find.{is_byte}
use Rattle.rule_lookup.proofs.FoundLemmas.{list_any-nowhere}
use Rattle.rule_lookup.proofs.LineLemmas.{lines_of-at, lines_of-none}
use Rattle.rule_lookup.proofs.SplitLemmas.{has_byte-before, split_at_position}
use Rattle.rule_lookup.proofs.lines.first_line.Goals as goal

pub returns-in-Some-clause-lines : goal.returns-in-Some-clause-lines
returns-in-Some-clause-lines c = (true, lines_of-at c.args.text.now c.in-Some.end c.in-Some.ensures)

pub returns-in-None-clause-lines : goal.returns-in-None-clause-lines
returns-in-None-clause-lines c = (false, lines_of-none c.args.text.now c.requires c.in-None.ensures)

pub returns-in-Some-clause-one_line : goal.returns-in-Some-clause-one_line
returns-in-Some-clause-one_line c = has_byte-before 10 c.in-Some.end c.args.text.now c.in-Some.ensures.0.before

pub returns-in-None-clause-one_line : goal.returns-in-None-clause-one_line
returns-in-None-clause-one_line c = list_any-nowhere (is_byte 10) c.args.text.now c.in-None.ensures

pub returns-in-Some-clause-cut : goal.returns-in-Some-clause-cut
returns-in-Some-clause-cut c = inl (split_at_position 10 c.in-Some.end c.args.text.now c.in-Some.ensures.0.high c.in-Some.ensures.1)

pub returns-in-None-clause-cut : goal.returns-in-None-clause-cut
returns-in-None-clause-cut c =
    let text = c.args.text.now in
    inr (refl, take_rest text (length text) ∙ drop_all (length text) text (omega arith))
