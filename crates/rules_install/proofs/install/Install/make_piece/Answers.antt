use Rattle.std.proofs.Common.{List, ℕ, ◌≡◌, ◌++◌, ◌^◌, ◌<◌, ◌≤◌, true, [], length, drop, refl, sym, subst, arith}
use Rattle.rule_lookup.specs.Pairs.{Rule}
use Rattle.cdb_files.specs.Image.{finished_length}
use Rattle.cdb_files.specs.Compiled.{stored}
use Rattle.rules_install.specs.Filled.{blank_file}
use Rattle.rules_install.specs.Pieces.{IsLeft, from_piece}
use Rattle.rules_install.proofs.FillBytes.{next_left, none_left}
use Rattle.rules_install.proofs.install.Install.make_piece.Goals as goal

pub invariant_of-self : goal.invariant_of-self
invariant_of-self c =
    let self = c.args.self.now in
    let before = from_piece self.pieces self.next in
    let none = next_left self.taken self.filled self.rest.items [] before before (blank_file self.pieces) self.rest_is (omega arith) refl in
    let same : c.make.new.self ≡ self.pieces = c.in_err-made.ensures.same in
    record {
      rest_is = subst (λ (pieces : List Rule). IsLeft pieces c.make.new.piece.items 0 self.next self.filled) (sym same) (subst (λ (items : List ℕ). drop 0 items ++ before ≡ drop self.filled (blank_file self.pieces)) (sym c.in_err-made.ensures.unmade) none);
      taken_fits = omega arith;
      filled_fits = subst (λ (pieces : List Rule). self.filled ≤ length (blank_file pieces)) (sym same) self.filled_fits;
      small = subst (λ (pieces : List Rule). finished_length (stored pieces) < 2 ^ 32) (sym same) self.small;
      whole = subst (λ (pieces : List Rule). self.patched ≡ true → self.filled ≡ length (blank_file pieces)) (sym same) self.whole;
      not_begun = self.not_begun;
      unfilled = self.unfilled;
    }

pub invariant_of-self-in-Some : goal.invariant_of-self-in-Some
invariant_of-self-in-Some c =
    let self = c.args.self.now in
    let of_piece = rw c.in-Some.is at c.in_ok-made.ensures.made in
    let same : c.make.new.self ≡ self.pieces = c.in_ok-made.ensures.same in
    record {
      rest_is = subst (λ (pieces : List Rule). IsLeft pieces c.make.new.piece.items 0 c.in-Some.next self.filled) (sym same) (next_left self.taken self.filled self.rest.items c.make.new.piece.items (from_piece self.pieces self.next) (from_piece self.pieces c.in-Some.next) (blank_file self.pieces) self.rest_is (omega arith) of_piece.1);
      taken_fits = omega arith;
      filled_fits = subst (λ (pieces : List Rule). self.filled ≤ length (blank_file pieces)) (sym same) self.filled_fits;
      small = subst (λ (pieces : List Rule). finished_length (stored pieces) < 2 ^ 32) (sym same) self.small;
      whole = subst (λ (pieces : List Rule). self.patched ≡ true → self.filled ≡ length (blank_file pieces)) (sym same) self.whole;
      not_begun = self.not_begun;
      unfilled = self.unfilled;
    }

pub invariant_of-self-in_default : goal.invariant_of-self-in_default
invariant_of-self-in_default c =
    let self = c.args.self.now in
    let before = from_piece self.pieces self.next in
    let last = rw c.in_default.is at c.in_ok-made.ensures.made in
    let none = next_left self.taken self.filled self.rest.items [] before before (blank_file self.pieces) self.rest_is (omega arith) refl in
    let same : c.make.new.self ≡ self.pieces = c.in_ok-made.ensures.same in
    record {
      rest_is = subst (λ (pieces : List Rule). IsLeft pieces c.make.new.piece.items 0 self.next self.filled) (sym same) (subst (λ (items : List ℕ). drop 0 items ++ before ≡ drop self.filled (blank_file self.pieces)) (sym last.1) none);
      taken_fits = omega arith;
      filled_fits = subst (λ (pieces : List Rule). self.filled ≤ length (blank_file pieces)) (sym same) self.filled_fits;
      small = subst (λ (pieces : List Rule). finished_length (stored pieces) < 2 ^ 32) (sym same) self.small;
      whole = subst (λ (pieces : List Rule). self.patched ≡ true → self.filled ≡ length (blank_file pieces)) (sym same) self.whole;
      not_begun = self.not_begun;
      unfilled = self.unfilled;
    }

pub returns-in-Some-clause-left : goal.returns-in-Some-clause-left
returns-in-Some-clause-left c =
    let of_piece = rw c.in-Some.is at c.in_ok-made.ensures.made in
    λ none. absurd (omega (arith, of_piece.0, none))

pub returns-in_default-clause-left : goal.returns-in_default-clause-left
returns-in_default-clause-left c =
    let self = c.args.self.now in
    let last = rw c.in_default.is at c.in_ok-made.ensures.made in
    let same : c.make.new.self ≡ self.pieces = c.in_ok-made.ensures.same in
    λ none. subst (λ (pieces : List Rule). self.filled ≡ length (blank_file pieces)) (sym same) (none_left self.taken self.filled self.rest.items (from_piece self.pieces self.next) (blank_file self.pieces) self.rest_is (omega arith) last.0 self.filled_fits)
