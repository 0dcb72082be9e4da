use Rattle.std.proofs.Common.{◌≡◌, ◌+◌, ◌*◌, ℕ, [], ◌∷◌, ◌++◌, length, map, ap, sym, ◌∙◌, arith}
use Rattle.std.specs.List.{range_with_len}
use Rattle.std.proofs.lemmas.List.FromFn.{map-range_with_len_more}
use Rattle.cdb_files.specs.Format.{entries_of}
use Rattle.cdb_files.specs.Image.{pointer_of, table_position}
use Rattle.cdb_files.specs.Slots.{table_entries}
use Rattle.cdb_files.proofs.TableLemmas.{table_fits, table_position-more, table_position-zero}
use Rattle.cdb_files.proofs.tables.Tables.pointers.Goals as goal

pub loop-table-init : goal.loop-table-init
loop-table-init c = λ pairs are. (c.in_ok-pointers.ensures.items, omega (arith, table_position-zero pairs, are.begins))

pub overflow_cast-slots : goal.overflow_cast-slots
overflow_cast-slots c =
    omega (arith, table_fits c.requires.0 c.loop-table.table _ c.requires.1.fits (c.get.ensures (entries_of c.requires.0) c.requires.1.by_table))

pub overflow_mul-slots : goal.overflow_mul-slots
overflow_mul-slots c =
    omega (arith, table_fits c.requires.0 c.loop-table.table _ c.requires.1.fits (c.get.ensures (entries_of c.requires.0) c.requires.1.by_table))

pub overflow_mul-position : goal.overflow_mul-position
overflow_mul-position c =
    omega (arith, table_fits c.requires.0 c.loop-table.table _ c.requires.1.fits (c.get.ensures (entries_of c.requires.0) c.requires.1.by_table))

pub overflow_add-position : goal.overflow_add-position
overflow_add-position c =
    omega (arith, (c.loop-table.invariant c.requires.0 c.requires.1).1, table_fits c.requires.0 c.loop-table.table _ c.requires.1.fits (c.get.ensures (entries_of c.requires.0) c.requires.1.by_table))

pub loop-table-preserved : goal.loop-table-preserved
loop-table-preserved c = λ pairs are.
    let table = c.loop-table.table in
    let before = c.loop-table.invariant pairs are in
    let entries : c.get.result.now ≡ table_entries table pairs = c.get.ensures (entries_of pairs) are.by_table in
    let pointer : ◌≡◌ {A = ℕ × ℕ} (c.loop-table.position, 2 * length c.get.result.now) (pointer_of pairs table) = ap (λ n. (n, 2 * length c.get.result.now)) before.1 ∙ ap (λ es. (table_position pairs table, 2 * length es)) entries in
    let last : 0 + table ≡ table = omega arith in
    (c.in_ok-push.ensures.items ∙ ap (λ ps. ps ++ (c.loop-table.position, 2 * length c.get.result.now) ∷ []) before.0 ∙ ap (λ p. map (pointer_of pairs) (range_with_len 0 table) ++ p ∷ []) pointer ∙ sym (map-range_with_len_more (pointer_of pairs) 0 table table last), omega (arith, before.1, ap length entries, table_position-more pairs table))

pub returns : goal.returns
returns c = λ pairs are.
    let all : c.loop-table.table ≡ 256 = omega arith in
    (c.loop-table.invariant pairs are).0 ∙ ap (λ n. map (pointer_of pairs) (range_with_len 0 n)) all
