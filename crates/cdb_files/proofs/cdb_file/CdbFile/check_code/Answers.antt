-- Each piece is read as one of the value.
use Rattle.std.proofs.Common.{◌+◌, ◌≤◌, ◌∙◌, arith, sym}
use Rattle.std.proofs.lemmas.Bool.{eqb-true}
use Rattle.cdb_files.specs.Parts.{value_of, value_position}
use Rattle.cdb_files.proofs.PieceLemmas.{GoesOn-next, length-bytes_at, piece_of, refused-end, refused-stage, refused-text}
use Rattle.cdb_files.proofs.cdb_file.CdbFile.check_code.Goals as goal

pub returns-in_default : goal.returns-in_default
returns-in_default g c =
    record {
      refused = λ honest.
          let file = g.F.RulesFile.bytes c.args.self.now in
          let done = c.loop-done.done in
          let count = c.min-count.result in
          let long = length-bytes_at file (value_position c.args.stored) c.args.stored.value_len (c.requires.inside honest) in
          let within : done + count ≤ c.args.stored.value_len = grind (arith, c.min-count.ensures) in
          let piece = rw c.value_position.ensures at (c.in_ok-piece.ensures.bytes honest) in
          refused-text (value_of file c.args.stored) c.in_ok-piece.piece.items done count c.loop-done.stage (c.loop-done.invariant.on honest)
          (piece ∙ piece_of file (value_position c.args.stored) c.args.stored.value_len done count (c.requires.inside honest) within) (omega arith)
          (λ rest ends. rw c.deref.ensures.value at (c.in_default.ensures rest (λ last. ends (eqb-true _ _ last ∙ sym long))));
    }

pub returns-then-is_no_code : goal.returns-then-is_no_code
returns-then-is_no_code g c =
    record {
      refused = λ honest.
          let file = g.F.RulesFile.bytes c.args.self.now in
          let done = c.loop-done.done in
          let count = c.min-count.result in
          let long = length-bytes_at file (value_position c.args.stored) c.args.stored.value_len (c.requires.inside honest) in
          let within : done + count ≤ c.args.stored.value_len = grind (arith, c.min-count.ensures) in
          let piece = rw c.value_position.ensures at (c.in_ok-piece.ensures.bytes honest) in
          let front = rw c.deref.ensures.value at c.in-Some.ensures in
          refused-stage (value_of file c.args.stored) c.in_ok-piece.piece.items done count c.loop-done.stage (c.loop-done.invariant.on honest)
          (piece ∙ piece_of file (value_position c.args.stored) c.args.stored.value_len done count (c.requires.inside honest) within) (omega arith)
          c.in-Some.front (omega (arith, front.1, c.in_ok-piece.ensures.length))
          (rw (c.from-stage.ensures, c.deref-in-loop-done.ensures.value) at (c.is_no_code.ensures c.if-is_no_code.true));
    }

pub loop-done-preserved : goal.loop-done-preserved
loop-done-preserved g c =
    let count = c.min-count.result in
    let done = c.loop-done.done in
    let within : done + count ≤ c.args.stored.value_len = grind (arith, c.min-count.ensures) in
    let front = rw c.deref.ensures.value at c.in-Some.ensures in
    record {
      inside = omega (arith, front.1, c.in_ok-piece.ensures.length);
      on = λ honest.
          let file = g.F.RulesFile.bytes c.args.self.now in
          let long = length-bytes_at file (value_position c.args.stored) c.args.stored.value_len (c.requires.inside honest) in
          let piece = rw c.value_position.ensures at (c.in_ok-piece.ensures.bytes honest) in
          let next = GoesOn-next (value_of file c.args.stored) c.in_ok-piece.piece.items done count c.loop-done.stage (c.loop-done.invariant.on honest)
          (piece ∙ piece_of file (value_position c.args.stored) c.args.stored.value_len done count (c.requires.inside honest) within) (omega arith)
          c.in-Some.front (omega (arith, front.1, c.in_ok-piece.ensures.length)) front.2 in
          rw (c.from-stage.ensures, c.deref-in-loop-done.ensures.value) next;
    }

pub returns-else-may_end : goal.returns-else-may_end
returns-else-may_end g c =
    record {
      refused = λ honest.
          let file = g.F.RulesFile.bytes c.args.self.now in
          let long = length-bytes_at file (value_position c.args.stored) c.args.stored.value_len (c.requires.inside honest) in
          refused-end (value_of file c.args.stored) c.loop-done.done c.loop-done.stage (c.loop-done.invariant.on honest) (omega arith) (sym c.may_end.ensures ∙ c.if-may_end.false);
    }
