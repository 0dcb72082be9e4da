-- Line after line has no fault, or the first one that has is named.
use Rattle.std.proofs.Common.{◌≡◌, ◌∙◌, ◌+◌, [], sym, ap, subst, arith}
use Rattle.std.proofs.lemmas.List.{nil_from_length}
use Rattle.rule_lines.specs.Faults.{fault_in, first_faulty}
use Rattle.rule_lookup.specs.Lines.{has_byte, lines_of}
use Rattle.rule_lines.specs.RuleFaults.{IsPlain}
use Rattle.rule_lines.proofs.KeepLemmas.{trimmed-part}
use Rattle.rule_lines.proofs.ParseLemmas.{IsReadUpTo-more, IsReadUpTo-none, fault-read, trimmed-plain}
use Rattle.rule_lines.proofs.text.accept_lines.Goals as goal

pub loop-rest-init : goal.loop-rest-init
loop-rest-init c = IsReadUpTo-none c.args.plain c.args.limit c.args.text.now c.requires

pub keep_line-requires-clause-one_line : goal.keep_line-requires-clause-one_line
keep_line-requires-clause-one_line c = ap (has_byte 10) c.trim_blanks.ensures ∙ (trimmed-part c.first_line.result.0.now c.first_line.ensures.one_line).0

pub keep_line-requires-clause-plain : goal.keep_line-requires-clause-plain
keep_line-requires-clause-plain c = λ plain.
    let (line, after) = c.first_line.result in
    subst IsPlain (sym c.trim_blanks.ensures)
    (trimmed-plain c.args.plain c.args.limit c.args.text.now c.loop-rest.rest.now line.now after.now c.loop-rest.number c.loop-rest.invariant c.first_line.ensures.lines c.first_line.ensures.cut plain)

pub returns-in-Err-Kind-clause-refused : goal.returns-in-Err-Kind-clause-refused
returns-in-Err-Kind-clause-refused c =
    let (line, after) = c.first_line.result in
    let refused = rw c.in-Err-Kind.field-0-is at c.in-Err-Kind.ensures.refused in
    rw c.in-Err-Kind.field-0-is
    (fault-read c.args.plain c.args.limit c.args.text.now c.loop-rest.rest.now line.now after.now c.loop-rest.number c.loop-rest.invariant c.first_line.ensures.lines c.in-Err-Kind.kind
    (ap (fault_in c.args.limit) (sym c.trim_blanks.ensures) ∙ refused))

pub loop-rest-preserved : goal.loop-rest-preserved
loop-rest-preserved c =
    let (line, after) = c.first_line.result in
    IsReadUpTo-more c.args.plain c.args.limit c.args.text.now c.loop-rest.rest.now line.now after.now c.loop-rest.number c.loop-rest.invariant c.first_line.ensures.lines c.first_line.ensures.cut
    c.first_line.ensures.shorter (ap (fault_in c.args.limit) (sym c.trim_blanks.ensures) ∙ c.in-Ok.ensures.faultless)

pub returns-clause-faultless : goal.returns-clause-faultless
returns-clause-faultless c =
    let nothing : c.loop-rest.rest.now ≡ [] = nil_from_length c.loop-rest.rest.now (grind (arith, c.is_empty.ensures, c.loop-rest-test.false)) in
    sym c.loop-rest.invariant.faults ∙ ap (λ xs. first_faulty c.args.limit (c.loop-rest.number + 1) (lines_of xs)) nothing
