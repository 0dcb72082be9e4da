use Rattle.std.proofs.Common.{◌<◌, ◌-◌, ℕ, get_or, length, arith}
use Rattle.std.proofs.lemmas.Bool.Decides.{nat_tests}
use Rattle.std.specs.Prelude.{◌≢◌}
use Rattle.whole_yard.specs.declared.receipt.Receipt.{Receipt}
use Rattle.whole_yard.proofs.Auditing.{above_at, above_last}
use Rattle.whole_yard.proofs.audit.is_above.Goals as goal

pub returns-then-one-receipt : goal.returns-then-one-receipt
returns-then-one-receipt c =
    let earlier = c.args.earlier.now in
    let left = c.loop-left.left in
    let at = left - 1 in
    let one = c.index-earlier-left.result in
    let r = c.args.receipt.now in
    let within : at < length earlier = omega (arith, c.loop-left.invariant.within, c.loop-left-test.true) in
    let others : (k : ℕ) (d : Receipt) → at < k → k < length earlier → (get_or earlier k d).caller ≢ r.caller =
    λ k d above inside. c.loop-left.invariant.others k d (omega (arith, above, c.loop-left-test.true)) inside in (
      λ less. above_last earlier at one r c.requires within c.index-earlier-left.is c.if-one-receipt.true others (grind (arith, nat_tests)),
      λ above.
          let below : one.at < r.at = above_at earlier at one r above within c.index-earlier-left.is c.if-one-receipt.true in
          grind (arith, nat_tests),
    )
