use Rattle.std.proofs.Common.{[], ◌∷◌, take}
use Rattle.byte_streams.proofs.FeedLemmas.{goes_line}
use Rattle.byte_streams.proofs.PartLemmas.{behind, cut_at, one_line_all, one_line_before}
use Rattle.byte_streams.proofs.WrapperLemmas.{deleted_from-feed}
use Rattle.byte_streams.proofs.wrappers.delete_returns.Goals as goal

pub hold_return-requires : goal.hold_return-requires
hold_return-requires c = one_line_before c.loop-end.rest.now c.in-Some.end c.in-Some.ensures.0

pub loop-end-preserved : goal.loop-end-preserved
loop-end-preserved c =
    let text = c.loop-end.rest.now in
    goes_line (take c.in-Some.end text) (behind text c.in-Some.end) (10 ∷ []) (cut_at text c.in-Some.end c.in-Some.ensures) c.loop-end.invariant
    c.in_ok-hold_return.ensures.fed (deleted_from-feed _) c.in_ok-extend_from_slice.ensures.items

pub hold_return-requires-2 : goal.hold_return-requires-2
hold_return-requires-2 c = one_line_all c.loop-end.rest.now c.in_default.ensures
