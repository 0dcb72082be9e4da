use Rattle.std.proofs.Common.{refl}
use Rattle.rules_install.proofs.BesideLemmas.{fits_filled}
use Rattle.rules_install.proofs.laws.own_steps.Goals as goal

pub returns : goal.returns
returns c r t d e result makes fits own = record {
  may = makes.may;
  same = makes.same;
  goes = makes.goes;
  changes = makes.changes;
  fills = λ is_open. fits_filled t e t.reached (fits is_open);
  made = refl;
  own = own;
}
