use Rattle.std.proofs.Common.{◌≡◌, ℕ, ◌++◌, length, replicate, refl, sym, ap, ◌∙◌, arith}
use Rattle.std.proofs.lemmas.List.{length-replicate}
use Rattle.cdb_files.specs.Format.{records_of}
use Rattle.cdb_files.specs.Image.{tables_of}
use Rattle.cdb_files.specs.Compiled.{stored}
use Rattle.rules_install.specs.Pieces.{from_piece}
use Rattle.rules_install.specs.declared.pieces.Piece.TheVariants.{Unset, Record}
use Rattle.rules_install.proofs.PieceLemmas.{behind}
use Rattle.rules_install.proofs.pieces.Pieces.make.Goals as goal

pub returns-in_ok-piece-in-Unset-clause-made : goal.returns-in_ok-piece-in-Unset-clause-made
returns-in_ok-piece-in-Unset-clause-made c =
    let rules = c.args.self.now in
    let unset : c.in_ok-piece-in-Unset.field-0.items ≡ replicate 2048 255 = c.in_ok-piece-in-Unset.ensures.items_if_clones_equal (λ y same. same) in
    let long : length c.in_ok-piece-in-Unset.field-0.items ≡ 2048 = ap length unset ∙ length-replicate {A = ℕ} 2048 255 in
    let whole : from_piece rules Unset ≡ c.in_ok-piece-in-Unset.field-0.items ++ from_piece rules (Record 0) = behind c.in_ok-piece-in-Unset.field-0.items (records_of (stored rules)) (replicate 2048 255) (records_of (stored rules)) (tables_of (stored rules)) (sym unset) refl in
    (omega arith, ap (from_piece rules) c.in-Unset.is ∙ whole)
