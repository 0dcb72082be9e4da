use Rattle.std.proofs.Common.{◌++◌, take, ap, sym, ◌∙◌, append_assoc}
use Rattle.byte_streams.specs.Records.{line_text, record_text}
use Rattle.byte_streams.proofs.PartLemmas.{behind}
use Rattle.byte_streams.proofs.LineRecordLemmas.{ends_record, record_text-at}
use Rattle.byte_streams.proofs.recording.record_parts.Goals as goal

pub loop-end-preserved : goal.loop-end-preserved
loop-end-preserved c =
    let text = c.loop-end.rest.now in
    let so_far = c.loop-end.invariant in
    let line = line_text c.args.number c.args.way (take c.in-Some.end text) in (
      so_far.0 ++ line,
      c.in_ok-add_line.ensures.ok ∙ ap (λ x. x ++ line) so_far.1 ∙ append_assoc c.args.out.now.items so_far.0 line,
      so_far.2 ∙ ap (λ x. so_far.0 ++ x) (record_text-at c.args.number c.args.way text c.in-Some.end c.in-Some.ensures)
          ∙ sym (append_assoc so_far.0 line (record_text c.args.number c.args.way (behind text c.in-Some.end))),
    )

pub returns-clause-ok : goal.returns-clause-ok
returns-clause-ok c =
    let so_far = c.loop-end.invariant in
    ends_record c.args.number c.args.way c.add_line-2.result c.args.piece.now c.loop-end.rest.now c.args.out.now.items so_far.0 c.loop-end.out.items _
    c.if-is_empty.ensures c.in_default.ensures so_far.1 so_far.2 c.add_line-2.ensures.ok
