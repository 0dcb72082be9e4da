-- The pieces before it have none.
use Rattle.std.proofs.Common.{◌+◌, ◌≤◌, ◌∙◌, arith}
use Rattle.cdb_files.specs.Parts.{bytes_at}
use Rattle.cdb_files.proofs.CodePieces.{AreWithout-next, IsFirst-in, IsFirst-nowhere}
use Rattle.cdb_files.proofs.PieceLemmas.{length-bytes_at, piece_of}
use Rattle.cdb_files.proofs.cdb_file.CdbFile.find_byte.Goals as goal

pub returns-in-Some-clause-first : goal.returns-in-Some-clause-first
returns-in-Some-clause-first g c = λ honest.
    let file = g.F.RulesFile.bytes c.args.self.now in
    let done = c.loop-done.done in
    let count = c.min-count.result in
    let within : done + count ≤ c.args.len = grind (arith, c.min-count.ensures) in
    let long = length-bytes_at file c.args.position c.args.len (c.requires.inside honest) in
    let cut = rw c.deref.ensures.value at c.in-Some.ensures in
    IsFirst-in c.args.byte (bytes_at file c.args.position c.args.len) c.in_ok-piece.piece.items done count (c.loop-done.invariant.on honest)
    (c.in_ok-piece.ensures.bytes honest ∙ piece_of file c.args.position c.args.len done count (c.requires.inside honest) within) (omega (arith, long))
    _ _ cut.0 cut.1

pub loop-done-preserved : goal.loop-done-preserved
loop-done-preserved g c =
    let done = c.loop-done.done in
    let count = c.min-count.result in
    let within : done + count ≤ c.args.len = grind (arith, c.min-count.ensures) in
    record {
      inside = within;
      on = λ honest.
          let file = g.F.RulesFile.bytes c.args.self.now in
          let long = length-bytes_at file c.args.position c.args.len (c.requires.inside honest) in
          AreWithout-next c.args.byte (bytes_at file c.args.position c.args.len) c.in_ok-piece.piece.items done count (c.loop-done.invariant.on honest)
          (c.in_ok-piece.ensures.bytes honest ∙ piece_of file c.args.position c.args.len done count (c.requires.inside honest) within) (omega (arith, long))
          (rw c.deref.ensures.value at c.in_default.ensures);
    }

pub returns-clause-first : goal.returns-clause-first
returns-clause-first g c = λ honest.
    let file = g.F.RulesFile.bytes c.args.self.now in
    IsFirst-nowhere c.args.byte (bytes_at file c.args.position c.args.len) c.loop-done.done (c.loop-done.invariant.on honest)
    (omega (arith, length-bytes_at file c.args.position c.args.len (c.requires.inside honest)))
