use Rattle.std.proofs.Common.{List, ℕ, ◌<◌, ◌^◌, ◌++◌, drop, zero-le, refl, ap, sym, subst, arith}
use Rattle.cdb_files.specs.Image.{finished_length}
use Rattle.cdb_files.specs.Compiled.{stored}
use Rattle.rule_lookup.specs.Pairs.{Rule}
use Rattle.rules_install.specs.declared.pieces.Piece.TheVariants.{Unset}
use Rattle.rules_install.specs.Pieces.{from_piece}
use Rattle.rules_install.proofs.StepBegins.{none_reached, not_whole}
use Rattle.rules_install.proofs.install.Install.begin.Goals as goal

pub invariant_of-result : goal.invariant_of-result
invariant_of-result c = record {
  rest_is = ap (λ (items : List ℕ). drop 0 items ++ from_piece c.in_ok-new.field-0 Unset) c.new-3.ensures.items;
  taken_fits = zero-le;
  filled_fits = zero-le;
  small = subst (λ (l : List Rule). finished_length (stored l) < 2 ^ 32) (sym c.in_ok-new.ensures.kept) (omega (arith, c.in_ok-new.ensures.fits));
  whole = not_whole _ _;
  not_begun = λ _. (refl, refl);
  unfilled = none_reached _;
}
