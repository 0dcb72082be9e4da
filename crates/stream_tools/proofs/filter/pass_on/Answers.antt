use Rattle.std.proofs.Common.{refl}
use Rattle.byte_streams.specs.Chains.{wrappers_of}
use Rattle.stream_tools.proofs.FilterLemmas.{came, came_by, one_wrapper, through_nothing}
use Rattle.stream_tools.proofs.filter.pass_on.Goals as goal

pub returns : goal.returns
returns g c =
    came_by (one_wrapper g.S.LineWrapper.rest (wrappers_of c.in_ok-chain.chain) c.args.wrapper (g.S.LineWrapper.rest c.args.wrapper) c.in_ok-chain.ensures refl)
    (came c.answer_of.ensures c.pump-end.ensures.pumped (through_nothing g.S.LineWrapper.rest c.requires (wrappers_of c.pump-end.new.chain)))
