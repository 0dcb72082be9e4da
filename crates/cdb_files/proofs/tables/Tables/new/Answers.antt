use Rattle.std.proofs.Common.{◌++◌, ◌∷◌, ◌∙◌, ℕ, Global, List, Vec, [], ap, map, sym, arith}
use Rattle.std.proofs.Math.ListN.{replicate}
use Rattle.std.proofs.lemmas.List.{map-append}
use Rattle.cdb_files.proofs.TableLemmas.{HoldsByTable-none, replicate-push}
use Rattle.cdb_files.proofs.tables.Tables.new.Goals as goal

abbrev items_of : Vec (ℕ × ℕ) Global → List (ℕ × ℕ)
items_of list = list.items

pub loop-table-preserved : goal.loop-table-preserved
loop-table-preserved c =
    ap (map items_of) c.in_ok-push.ensures.items ∙ map-append items_of c.loop-table.lists.items (c.new.result ∷ [])
    ∙ ap (λ lists. lists ++ items_of c.new.result ∷ []) c.loop-table.invariant
    ∙ ap (λ (list : List (ℕ × ℕ)). replicate c.loop-table._table [] ++ list ∷ []) c.new.ensures.items ∙ sym (replicate-push c.loop-table._table [])

pub returns : goal.returns
returns c = HoldsByTable-none c.loop-table._table _ (omega arith) c.loop-table.invariant
