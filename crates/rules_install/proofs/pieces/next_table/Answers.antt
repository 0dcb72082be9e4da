use Rattle.std.proofs.Common.{◌≡◌, ◌≢◌, ℕ, ◌-◌, ◌+◌, List, [], ◌++◌, flat_map, length, refl, sym, ap, ◌∙◌, arith}
use Rattle.std.specs.List.{range_with_len}
use Rattle.std.proofs.lemmas.Bool.{eqb-false, eqb-true}
use Rattle.cdb_files.specs.Format.{entries_of}
use Rattle.cdb_files.specs.Image.{table_bytes}
use Rattle.cdb_files.specs.Slots.{table_entries}
use Rattle.cdb_files.specs.Compiled.{stored}
use Rattle.rules_install.proofs.PieceLemmas.{parts-more, parts-past, table_bytes-none, table_bytes-some}
use Rattle.rules_install.proofs.pieces.next_table.Goals as goal

pub loop-t-init : goal.loop-t-init
loop-t-init c = (λ rules held. refl, c.requires)

pub returns-then-not-is_empty-clause-made : goal.returns-then-not-is_empty-clause-made
returns-then-not-is_empty-clause-made c = λ rules held.
    let t = c.loop-t.t in
    let parts : ℕ → List ℕ = λ u. table_bytes (table_entries u (stored rules)) in
    let entries : c.get-entries.result.now ≡ table_entries t (stored rules) = c.get-entries.ensures (entries_of (stored rules)) held in
    let filled : length c.get-entries.result.now ≢ 0 = eqb-false _ _ (sym c.is_empty.ensures ∙ c.if-not-is_empty.true) in
    let some = table_bytes-some c.get-entries.result.now (omega arith) in
    let piece : parts t ≡ c.in_ok-piece.field-0.items = ap table_bytes (sym entries) ∙ sym c.in_ok-piece.ensures in
    let rest = flat_map parts (range_with_len (t + 1) (256 - (t + 1))) in
    (omega (arith, some, ap length c.in_ok-piece.ensures), c.loop-t.invariant.0 rules held ∙ parts-more parts t 256 c.loop-t-test.true ∙ ap (λ (bytes : List ℕ). bytes ++ rest) piece)

pub loop-t-preserved : goal.loop-t-preserved
loop-t-preserved c = (
  λ rules held.
      let t = c.loop-t.t in
      let parts : ℕ → List ℕ = λ u. table_bytes (table_entries u (stored rules)) in
      let entries : c.get-entries.result.now ≡ table_entries t (stored rules) = c.get-entries.ensures (entries_of (stored rules)) held in
      let none = eqb-true _ _ (sym c.is_empty.ensures ∙ c.if-not-is_empty.false) in
      let piece : parts t ≡ [] = ap table_bytes (sym entries) ∙ table_bytes-none c.get-entries.result.now none in
      let rest = flat_map parts (range_with_len (t + 1) (256 - (t + 1))) in
      c.loop-t.invariant.0 rules held ∙ parts-more parts t 256 c.loop-t-test.true ∙ ap (λ (bytes : List ℕ). bytes ++ rest) piece,
  c.loop-t.invariant.1,
)

pub returns-clause-made : goal.returns-clause-made
returns-clause-made c = λ rules held. (c.loop-t.invariant.0 rules held ∙ parts-past (λ u. table_bytes (table_entries u (stored rules))) c.loop-t.t 256 (omega arith), c.loop-t.invariant.1)
