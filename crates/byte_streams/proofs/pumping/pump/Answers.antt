use Rattle.std.proofs.Common.{refl}
use Rattle.std.proofs.KnownBytes.{Keeps-refl}
use Rattle.byte_streams.proofs.PassLemmas.{read_and_passed_nothing}
use Rattle.byte_streams.proofs.PieceLemmas.{pumped_of_read_and_passed}
use Rattle.byte_streams.specs.declared.pumping.Why.TheVariants.{OutOfMemory}
use Rattle.byte_streams.proofs.pumping.pump.Goals as goal

pub returns-in-Err-clause-pumped : goal.returns-in-Err-clause-pumped
returns-in-Err-clause-pumped g c =
    pumped_of_read_and_passed (read_and_passed_nothing g.T.Tap.watches g.T.Tap.sees g.T.Tap.ends c.args.tap.now 0 OutOfMemory (Keeps-refl _) refl (_, λ later. refl) refl refl)
