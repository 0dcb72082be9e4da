use Rattle.std.proofs.Common.{refl}
use Rattle.byte_streams.specs.Chains.{wrappers_of}
use Rattle.byte_streams.specs.Wrapped.{fixed}
use Rattle.stream_tools.proofs.FilterLemmas.{one_wrapper}
use Rattle.stream_tools.specs.Lanes.{fixing}
use Rattle.stream_tools.proofs.fixcrio.fix_lane.Goals as goal

pub returns : goal.returns
returns g c =
    (refl, one_wrapper fixing (wrappers_of c.in_ok-chain.chain) c.new.result fixed c.in_ok-chain.ensures c.new.ensures)
