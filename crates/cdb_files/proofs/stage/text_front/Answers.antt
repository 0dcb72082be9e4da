use Rattle.std.proofs.Common.{subst, ap, ◌∙◌, ◌++◌, append-nil, arith}
use Rattle.std.specs.Str.{IsUtf8}
use Rattle.cdb_files.proofs.PieceLemmas.{no_text}
use Rattle.cdb_files.proofs.stage.text_front.Goals.{then-is_last-via-then-is_last, then-is_last-via-else-is_last+then-piece-front-ge4}
use Rattle.cdb_files.proofs.stage.text_front.Goals as goal

pub returns-then-is_last : goal.returns-then-is_last
returns-then-is_last c = λ rest last text. elim c.then-is_last.branch [
  | then-is_last-via-then-is_last w ↦ c.in-Err.ensures.cases.0 (subst IsUtf8 (ap (λ more. c.args.piece.now ++ more) (last w.if-is_last.true) ∙ append-nil c.args.piece.now) text)
  | then-is_last-via-else-is_last+then-piece-front-ge4 w ↦ no_text c.args.piece.now rest _ (c.in-Err.ensures.cases.1) (omega (arith, c.valid_up_to-front.ensures)) text
]
