use Rattle.std.proofs.Common.{◌%◌, ◌<◌, ℕ, List, [], ◌∷◌, ◌++◌, Global, Vec, refl, subst, sym, ◌∙◌, arith}
use Rattle.std.proofs.lemmas.Result.{err_from_is_err_and}
use Rattle.cdb_files.specs.Tables.{HoldsByTable}
use Rattle.cdb_files.proofs.TableLemmas.{HoldsByTable-push, map-set_push, map-set_same}
use Rattle.cdb_files.proofs.tables.Tables.push.Goals as goal

abbrev items_of : Vec (ℕ × ℕ) Global → List (ℕ × ℕ)
items_of list = list.items

pub returns-in_err-push-clause-unchanged : goal.returns-in_err-push-clause-unchanged
returns-in_err-push-clause-unchanged c =
    let p = err_from_is_err_and c.from_residual.result c.from_residual.ensures.1 in
    rw p.1 (map-set_same items_of c.self.inside.lists.items (c.args.entry.0 % 256) c.index_mut.result.now c.push.new.self c.index_mut.ensures.value c.in_err-push.ensures.items ∙ c.self.view_is)

pub returns-clause-added : goal.returns-clause-added
returns-clause-added c =
    λ entries held.
    let lists = c.self.inside.lists.items in
    let table = c.args.entry.0 % 256 in
    let before : HoldsByTable c.args.self.now entries = held in
    let below : table < 256 = omega arith in
    let written = map-set_push items_of lists table c.index_mut.result.now c.push.new.self c.args.entry (omega (arith, c.self.invariant)) c.index_mut.ensures.value c.in_ok-push.ensures.items in
    subst (λ ls. HoldsByTable ls (entries ++ c.args.entry ∷ [])) (sym written) (HoldsByTable-push _ entries c.args.entry table refl below (subst (λ ls. HoldsByTable ls entries) (sym c.self.view_is) before))
