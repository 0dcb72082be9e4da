use Rattle.std.proofs.Common.{refl}
use Rattle.byte_streams.proofs.PassLemmas.{gives_added, gives_same, passes_given, passes_none}
use Rattle.byte_streams.proofs.pieces.pass.Goals as goal

pub returns-then-is_empty-clause-passed : goal.returns-then-is_empty-clause-passed
returns-then-is_empty-clause-passed g c =
    let none = c.if-is_empty.ensures.0 refl in
    let piece = c.args.piece.now in
    λ left. passes_given g.T.Tap.watches g.T.Tap.sees g.T.Tap.ends c.args.tap.now c.show.new.tap c.give.new.tap piece piece c.show.ensures.shown c.show.ensures.same c.give.ensures.shown (gives_same g.S.LineWrapper.rest none piece) c.give.ensures.wrote

pub returns-in-Ok-clause-passed : goal.returns-in-Ok-clause-passed
returns-in-Ok-clause-passed g c =
    let fed = c.in-Ok.ensures.fed in
    λ left. passes_given g.T.Tap.watches g.T.Tap.sees g.T.Tap.ends c.args.tap.now c.show.new.tap c.give-in-Ok.new.tap c.args.piece.now c.deref.result.now c.show.ensures.shown c.show.ensures.same c.give-in-Ok.ensures.shown (gives_added c.clear.ensures.items fed c.deref.ensures.value) c.give-in-Ok.ensures.wrote

pub returns-in-Err-OutOfMemory-clause-passed : goal.returns-in-Err-OutOfMemory-clause-passed
returns-in-Err-OutOfMemory-clause-passed g c =
    λ left. passes_none g.T.Tap.watches g.T.Tap.sees g.T.Tap.ends c.args.tap.now c.show.new.tap c.show.ensures.shown refl
