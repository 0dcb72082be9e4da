use Rattle.std.proofs.Common.{◌≡◌, ◌&&◌, ◌∙◌, ◌+◌, ℕ, List, [], ◌++◌, flat_map, length, ap, arith}
use Rattle.std.specs.Prelude.{is_none}
use Rattle.rule_lookup.specs.Lines.{trimmed}
use Rattle.rule_warnings.specs.Findings.{kinds_in}
use Rattle.rule_warnings.specs.Tables.{line_under, noted_all}
use Rattle.rule_warnings.specs.Warnings.{addresses_in, kinds_by, warning_line, warnings_at}
use Rattle.rule_warnings.proofs.ReportLemmas.{faultless-lines, readable, seen-within, written-more, written-none, written-all}
use Rattle.rule_warnings.proofs.report.write_each.Goals as goal

pub loop-rest-init : goal.loop-rest-init
loop-rest-init g c =
    written-none c.args.limit c.args.text.now (line_under c.args.seen.now) (g.W.Write.contents c.args.writer.now) c.requires.unseen c.requires.faultless

pub look_at-requires : goal.look_at-requires
look_at-requires g c =
    let (line, after) = c.first_line.result in
    let (ended, cut) = c.first_line.ensures.lines in
    let faultless = faultless-lines c.args.limit _ c.loop-rest.rest.now line.now after.now ended cut c.loop-rest.invariant.faultless in
    let table = line_under c.loop-rest.seen in
    record {
      range = rw c.trim_blanks.ensures (readable c.args.limit (trimmed line.now) faultless.0);
      earlier = seen-within table c.loop-rest.invariant.earlier c.loop-rest.number c.loop-rest.invariant.counted c.loop-rest.invariant.seen;
    }

pub loop-rest-preserved : goal.loop-rest-preserved
loop-rest-preserved g c =
    let (line, after) = c.first_line.result in
    let (ended, cut) = c.first_line.ensures.lines in
    let table = line_under c.loop-rest.seen in
    let found = c.in_ok-found.ensures in
    let written = c.in_ok-warned.ensures in
    written-more c.args.limit c.args.text.now c.loop-rest.rest.now line.now after.now ended c.loop-rest.number table (line_under c.look_at.new.seen) c.loop-rest.warned c.in_ok-warned.warned
    (g.W.Write.contents c.args.writer.now) (g.W.Write.contents c.loop-rest.writer) (g.W.Write.contents c.write_found.new.writer) c.deref.result.now (kinds_in c.in_ok-found.found) c.is_empty-is_last.result
    cut c.first_line.ensures.shorter c.is_empty-is_last.ensures
    (found.kinds ∙ ap (λ (l : List ℕ). kinds_by table l (c.is_empty-is_last.result && is_none (line_under c.look_at.new.seen []))) c.trim_blanks.ensures)
    (λ a. found.noted a ∙ ap (λ (l : List ℕ). noted_all table (addresses_in l) (c.loop-rest.number + 1) a) c.trim_blanks.ensures)
    (c.deref.ensures.value ∙ c.in_ok-append_found.ensures ∙ ap (λ (l : List ℕ). l ++ flat_map warning_line (warnings_at (c.loop-rest.number + 1) (kinds_in c.in_ok-found.found))) c.clear.ensures.items)
    written.written written.warned c.loop-rest.invariant

pub returns-clause-written : goal.returns-clause-written
returns-clause-written g c =
    let none : length c.loop-rest.rest.now ≡ 0 = grind (arith, c.is_empty.ensures, c.loop-rest-test.false) in
    (written-all c.args.limit c.args.text.now c.loop-rest.rest.now c.loop-rest.number (line_under c.loop-rest.seen) c.loop-rest.warned (g.W.Write.contents c.args.writer.now) (g.W.Write.contents c.loop-rest.writer) c.requires.some none c.loop-rest.invariant).0

pub returns-clause-warned : goal.returns-clause-warned
returns-clause-warned g c =
    let none : length c.loop-rest.rest.now ≡ 0 = grind (arith, c.is_empty.ensures, c.loop-rest-test.false) in
    (written-all c.args.limit c.args.text.now c.loop-rest.rest.now c.loop-rest.number (line_under c.loop-rest.seen) c.loop-rest.warned (g.W.Write.contents c.args.writer.now) (g.W.Write.contents c.loop-rest.writer) c.requires.some none c.loop-rest.invariant).1
