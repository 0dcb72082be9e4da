use Rattle.std.proofs.Common.{rules, tests}
use Rattle.byte_streams.proofs.RecordLemmas.{front_more, front_none}
use Rattle.byte_streams.proofs.tap.RecorderTap.seen.Goals as goal

pub loop-self-init : goal.loop-self-init
loop-self-init g c = front_none g.W.Write.contents c.args.self.now c.args.piece.now

pub loop-self-preserved : goal.loop-self-preserved
loop-self-preserved g c =
    front_more g.W.Write.contents c.loop-self.invariant (search (rules, tests)) (search (rules, tests)) c.longest_piece-longest.ensures.longest c.longest_piece-longest.ensures.some
    (search rules) c.split_at.ensures.front c.split_at.ensures.back c.record_piece.ensures
