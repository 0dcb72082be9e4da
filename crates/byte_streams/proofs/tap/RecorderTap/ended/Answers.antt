use Rattle.std.proofs.Common.{arith, length, ap}
use Rattle.byte_streams.proofs.tap.RecorderTap.ended.Goals as goal

pub write_lines-requires : goal.write_lines-requires
write_lines-requires g c = record { fits = omega (arith, c.record_end-done.ensures.fits, ap length c.clear.ensures.items) }
