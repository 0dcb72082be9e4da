use Rattle.std.proofs.Common.{◌≡◌, false, arith}
use Rattle.rule_warnings.specs.Tables.{line_under}
use Rattle.rule_warnings.proofs.CaseLemmas.{has_capitals}
use Rattle.rule_warnings.proofs.ReadLemmas.{OnOk-map}
use Rattle.rule_warnings.proofs.StepLemmas.{noted-one, undecided-one}
use Rattle.rule_warnings.proofs.findings.note_all.Goals as goal

pub returns-in-One : goal.returns-in-One
returns-in-One c =
    let none : has_capitals c.in-One.address.now ≡ false = grind (arith, c.is_folding.ensures, c.if-not-is_folding.true) in
    OnOk-map c.note_lent.result
    (noted-one (line_under c.args.seen.now) (line_under c.note_lent.new.self) c.args.addresses c.in-One.address c.args.number c.in-One.is none)
    c.note_lent.ensures

pub note_lent-requires : goal.note_lent-requires
note_lent-requires c =
    let none : has_capitals c.in-One.address.now ≡ false = grind (arith, c.is_folding.ensures, c.if-not-is_folding.true) in
    undecided-one (line_under c.args.seen.now) c.args.addresses c.in-One.address c.in-One.is none c.requires.undecided
