use Rattle.std.proofs.Common.{◌++◌, map, take, ap, ◌∙◌}
use Rattle.byte_text.specs.Fields.{mark}
use Rattle.byte_text.proofs.Appends.{cut_off, first, last, renamed}
use Rattle.byte_text.proofs.FieldTexts.{field_text-long, field_text-short, take-printed}
use Rattle.byte_text.proofs.fields.push_marked.Goals as goal

pub returns-in_err-push : goal.returns-in_err-push
returns-in_err-push c =
    cut_off _ _ (map mark (take c.loop-byte.byte-index (take c.min.result c.args.bytes.now))) c.push.new.self.items c.from_residual.result c.from_residual.ensures.0 (c.in_err-push.ensures.items ∙ c.loop-byte.invariant)

pub returns-then-bytes-lt-FIELD : goal.returns-then-bytes-lt-FIELD
returns-then-bytes-lt-FIELD c =
    let bytes = c.args.bytes.now in
    let printed = take-printed bytes 100 c.min.result c.loop-byte.byte-index c.min.ensures c.loop-byte-test.false in
    c.loop-byte.invariant ∙ ap (λ t. c.args.out.now.items ++ t) (ap (map mark) printed ∙ field_text-short bytes c.if-bytes-lt-FIELD.true)

pub returns : goal.returns
returns c =
    let bytes = c.args.bytes.now in
    let printed = take-printed bytes 100 c.min.result c.loop-byte.byte-index c.min.ensures c.loop-byte-test.false in
    let marked = first c.args.out.now.items (map mark (take 100 bytes)) (c.loop-byte.invariant ∙ ap (λ t. c.args.out.now.items ++ map mark t) printed) in
    renamed _ c.push_text.new.out.items c.push_text.result (field_text-long bytes c.if-bytes-lt-FIELD.false) (last _ c.push_text.new.out.items c.push_text.result marked c.push_text.ensures)
