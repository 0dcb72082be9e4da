use Rattle.std.proofs.Common.{Some, None, ◌-◌, arith, rules, ap, unwrap_or}
use Rattle.std.specs.BTreeMap.{get}
use Rattle.std.specs.Cmp.Lexicographic.{slice_cmp}
use Rattle.std.specs.Ordering.{nat_cmp}
use Rattle.server_events.proofs.Tallies.{one_less}
use Rattle.server_events.proofs.addresses.AddressCounts.leave.Goals as goal

pub returns-then-count-eq1-clause-left : goal.returns-then-count-eq1-clause-left
returns-then-count-eq1-clause-left c q =
    let old = get (slice_cmp nat_cmp) c.args.self.now.counts in
    let new = get (slice_cmp nat_cmp) c.remove.new.self in
    one_less old new c.args.ip q None (c.remove.ensures.updates.0 q) (omega arith)

pub returns-in-Some-clause-left : goal.returns-in-Some-clause-left
returns-in-Some-clause-left c q =
    let w = c.in-Some.count.now - 1 in
    let old = get (slice_cmp nat_cmp) c.args.self.now.counts in
    let new = get (slice_cmp nat_cmp) (c.get_mut.follows.lender w) in
    let had = ap (λ o. unwrap_or o 0) c.in-Some.ensures.value in
    one_less old new c.args.ip q (Some w) (((c.get_mut.follows.holds w).3 (search rules)).0 q) (omega arith)
