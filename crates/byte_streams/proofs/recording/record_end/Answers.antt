use Rattle.std.proofs.Common.{rules}
use Rattle.byte_streams.proofs.FitLemmas.{added_fits, end_fits}
use Rattle.byte_streams.proofs.recording.record_end.Goals as goal

pub returns-clause-fits : goal.returns-clause-fits
returns-clause-fits c =
    let fits = end_fits c.args.number c.ranges.number.fits c.args.way in
    added_fits c.add_line-done.result c.args.out.now.items _ c.add_line-done.new.out.items c.take_back.new.out.items c.len-before.result
    (search rules) c.add_line-done.ensures.ok (search rules) (search rules) fits
