use Rattle.std.proofs.Common.{arith, length, ap}
use Rattle.byte_streams.proofs.tap.Recorder.record_piece.Goals as goal

pub write_lines-requires : goal.write_lines-requires
write_lines-requires g c = record { fits = omega (arith, c.record-done.ensures.fits c.requires.short, ap length c.clear.ensures.items) }
