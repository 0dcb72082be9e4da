use Rattle.std.proofs.Common.{rules}
use Rattle.byte_streams.specs.Records.{record_text}
use Rattle.byte_streams.proofs.FitLemmas.{added_fits, record_fits}
use Rattle.byte_streams.proofs.recording.record.Goals as goal

pub returns-clause-fits : goal.returns-clause-fits
returns-clause-fits c = λ short.
    let fits = record_fits c.args.number c.ranges.number.fits c.args.way c.args.piece.now short in
    added_fits c.record_parts-done.result c.args.out.now.items (record_text c.args.number c.args.way c.args.piece.now) c.record_parts-done.new.out.items c.take_back.new.out.items c.len-before.result
    (search rules) c.record_parts-done.ensures.ok (search rules) (search rules) fits
