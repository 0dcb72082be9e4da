use Rattle.std.proofs.Common.{List, ◌≡◌, ◌^◌, ◌<◌, ◌≤◌, true, length, sym, subst}
use Rattle.rule_lookup.specs.Pairs.{Rule}
use Rattle.cdb_files.specs.Image.{finished_length}
use Rattle.cdb_files.specs.Compiled.{stored}
use Rattle.rules_install.specs.Filled.{blank_file}
use Rattle.rules_install.specs.Pieces.{IsLeft}
use Rattle.rules_install.proofs.install.Install.make_header.Goals as goal

pub invariant_of-self : goal.invariant_of-self
invariant_of-self c =
    let self = c.args.self.now in
    let same : c.header.new.self ≡ self.pieces = c.header.ensures.same in
    record {
      rest_is = subst (λ (pieces : List Rule). IsLeft pieces self.rest.items self.taken self.next self.filled) (sym same) self.rest_is;
      taken_fits = self.taken_fits;
      filled_fits = subst (λ (pieces : List Rule). self.filled ≤ length (blank_file pieces)) (sym same) self.filled_fits;
      small = subst (λ (pieces : List Rule). finished_length (stored pieces) < 2 ^ 32) (sym same) self.small;
      whole = subst (λ (pieces : List Rule). self.patched ≡ true → self.filled ≡ length (blank_file pieces)) (sym same) self.whole;
      not_begun = self.not_begun;
      unfilled = self.unfilled;
    }
