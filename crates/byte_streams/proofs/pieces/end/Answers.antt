use Rattle.std.proofs.Common.{refl}
use Rattle.byte_streams.proofs.PassLemmas.{added_to_none, passes_end, passes_nothing, passes_rest}
use Rattle.byte_streams.specs.declared.pumping.Why.TheVariants.{OutOfMemory}
use Rattle.byte_streams.proofs.pieces.end.Goals as goal

pub returns-in-Err-OutOfMemory-clause-passed : goal.returns-in-Err-OutOfMemory-clause-passed
returns-in-Err-OutOfMemory-clause-passed g c =
    λ left at_end. passes_nothing g.T.Tap.watches g.T.Tap.sees g.T.Tap.ends c.args.tap.now 1 OutOfMemory refl (_, λ later. refl) refl refl

pub returns-in-Err-clause-passed : goal.returns-in-Err-clause-passed
returns-in-Err-clause-passed g c =
    let is = added_to_none c.clear.ensures.items c.in-Ok.ensures.finished c.deref.ensures.value in
    λ left at_end. passes_rest g.T.Tap.watches g.T.Tap.sees g.T.Tap.ends c.args.tap.now c.give.new.tap c.in-Err.ensures.shown is c.in-Err.ensures.wrote at_end

pub returns-clause-passed : goal.returns-clause-passed
returns-clause-passed g c =
    let is = added_to_none c.clear.ensures.items c.in-Ok.ensures.finished c.deref.ensures.value in
    let wrote = c.in_default.ensures.wrote in
    λ left at_end. passes_end g.T.Tap.watches g.T.Tap.sees g.T.Tap.ends c.args.tap.now c.give.new.tap c.ended.new.self c.in_default.ensures.shown c.ended.ensures.ended is wrote at_end
