use Rattle.std.proofs.Common.{refl}
use Rattle.std.proofs.KnownBytes.{Keeps-refl}
use Rattle.byte_streams.specs.Chains.{has_failed}
use Rattle.byte_streams.proofs.PassLemmas.{read_and_passed_nothing}
use Rattle.byte_streams.proofs.PieceLemmas.{goes_on_as_before, pumped_of_read_and_passed}
use Rattle.byte_streams.specs.declared.pumping.Why.TheVariants.{Failed}
use Rattle.byte_streams.proofs.pumping.pump_into.Goals as goal

pub returns-then-has_failed-clause-pumped : goal.returns-then-has_failed-clause-pumped
returns-then-has_failed-clause-pumped g c =
    pumped_of_read_and_passed (read_and_passed_nothing g.T.Tap.watches g.T.Tap.sees g.T.Tap.ends c.args.tap.now 0 Failed (Keeps-refl _) refl (_, λ later. refl) refl refl)

pub returns-clause-pumped : goal.returns-clause-pumped
returns-clause-pumped g c = pumped_of_read_and_passed c.run-why.ensures.read_and_passed

pub returns-clause-unfinished : goal.returns-clause-unfinished
returns-clause-unfinished g c =
    goes_on_as_before (has_failed c.args.chain.now) (has_failed c.run-why.new.chain) c.run-why.ensures.stays_open
