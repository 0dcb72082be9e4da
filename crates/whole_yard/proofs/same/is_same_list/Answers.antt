use Rattle.std.proofs.Common.{◌≡◌, ℕ, length, take, sym, ap, ◌∙◌, rules, arith}
use Rattle.std.proofs.Math.Seq.{take-length}
use Rattle.whole_yard.proofs.same.is_same_list.Goals as goal

pub returns : goal.returns
returns c =
    let one = c.args.one.now in
    let other = c.args.other.now in
    let end : c.loop-i.i ≡ length one = omega (arith, c.loop-i-test.false, c.loop-i.auto.i-end) in
    let as_long = c.if-one-other.false in
    let whole : one ≡ other =
    sym (take-length one) ∙ ap (λ (n : ℕ). take n one) (sym end) ∙ c.loop-i.invariant ∙ ap (λ (n : ℕ). take n other) (end ∙ as_long) ∙ take-length other in
    (λ _. whole, λ _. search rules)
