use Rattle.std.proofs.Common.{ap, Some, ◌+◌}
use Rattle.std.specs.BTreeMap.{get}
use Rattle.std.specs.Cmp.Lexicographic.{slice_cmp}
use Rattle.std.specs.Ordering.{nat_cmp}
use Rattle.server_events.proofs.Tallies.{one_more}
use Rattle.server_events.proofs.addresses.AddressCounts.add.Goals as goal

pub returns-clause-added : goal.returns-clause-added
returns-clause-added c q =
    let old = get (slice_cmp nat_cmp) c.args.self.now.counts in
    let new = get (slice_cmp nat_cmp) c.insert.new.self in
    one_more old new c.args.ip q (Some (c.count-count.result + 1)) (c.in_ok-insert.ensures.updates.0 q) (ap (λ k. k + 1) c.count-count.ensures)
