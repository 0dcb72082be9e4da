use Rattle.std.proofs.Common.{◌≡◌, ℕ, List, ap, refl, subst, arith}
use Rattle.std.specs.Prelude.{is_none}
use Rattle.rule_warnings.specs.Tables.{line_under, noted}
use Rattle.rule_warnings.proofs.ReadLemmas.{OnOk-map}
use Rattle.rule_warnings.proofs.TableLemmas.{none_first, noted-lent}
use Rattle.rule_warnings.proofs.seen.Seen.note_lent.Goals as goal

pub insert-requires : goal.insert-requires
insert-requires c = none_first _ _ _ (ap is_none c.requires)

pub returns-in-Ok : goal.returns-in-Ok
returns-in-Ok c =
    let old = c.args.self.now in
    let new = record old { lent = c.insert.new.self } in
    let same : c.in-Ok.short ≡ c.args.line = omega (arith, c.in-Ok.ensures) in
    OnOk-map c.insert.result
    (λ lent. subst (λ (n : ℕ). (other : List ℕ) → line_under new other ≡ noted (line_under old) c.args.address.now n other) same
    (noted-lent old new c.args.address c.in-Ok.short (ap is_none c.requires) refl refl lent))
    c.insert.ensures
