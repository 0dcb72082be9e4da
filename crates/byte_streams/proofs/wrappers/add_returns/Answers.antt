use Rattle.std.proofs.Common.{◌≡◌, ℕ, List, [], ◌∷◌, ◌++◌, take}
use Rattle.std.specs.Prelude.{Err, Ok, OnOk, Result, if◌then◌else◌, is_ok}
use Rattle.std.specs.declared.alloc.AllocError.{AllocError}
use Rattle.byte_streams.specs.Wrappers.{Feeds}
use Rattle.byte_streams.specs.Wrapped.{IsOneLine, added}
use Rattle.byte_streams.proofs.FeedLemmas.{Goes, goes_line, goes_rest}
use Rattle.byte_streams.proofs.PartLemmas.{behind, cut_at, one_line_all, one_line_before}
use Rattle.byte_streams.proofs.WrapperLemmas.{added-feed, added_feeds}
use Rattle.byte_streams.proofs.wrappers.add_returns.Goals as goal

rest_added : {piece rest before so_far after : List ℕ} (result : Result (Unit {0}) AllocError) → Goes added added piece rest before so_far → IsOneLine rest → after ≡ (if is_ok result then so_far ++ rest else so_far) → OnOk result (Feeds added added piece before after)
rest_added {rest = rest} (Ok _) goes one is = goes_rest goes (added_feeds rest one is)
rest_added (Err _) goes one is = tt

pub loop-end-preserved : goal.loop-end-preserved
loop-end-preserved c =
    let text = c.loop-end.rest.now in
    let front = take c.in-Some.end text in
    goes_line front (behind text c.in-Some.end) (13 ∷ 10 ∷ []) (cut_at text c.in-Some.end c.in-Some.ensures) c.loop-end.invariant
    (added_feeds front (one_line_before text c.in-Some.end c.in-Some.ensures.0) c.in_ok-extend_from_slice.ensures.items)
    added-feed c.in_ok-extend_from_slice-2.ensures.items

pub returns-clause-fed : goal.returns-clause-fed
returns-clause-fed c = rest_added c.extend_from_slice-2.result c.loop-end.invariant (one_line_all c.loop-end.rest.now c.in_default.ensures) c.extend_from_slice-2.ensures.items
