-- Where the records of the first rules of a list stand, and how long the file of all is.
use Rattle.std.proofs.Common.{◌≡◌, ℕ, ◌+◌, ◌*◌, ◌^◌, ◌<◌, ◌≤◌, List, [], ◌∷◌, ◌++◌, Some, length, take, drop, slice_get, refl, sym, ap, ◌∙◌, subst, arith, length-append}
use Rattle.std.proofs.lemmas.List.{length-map, map-append, map_more, take-append-drop, take_all}
use Rattle.std.proofs.lemmas.List.Concat.{flat_map-append}
use Rattle.std.proofs.lemmas.List.Sums.{sum_by-cons}
use Rattle.std.proofs.lemmas.Option.{get_or_from_slice_get, slice_get_within}
use Rattle.rule_lookup.specs.Codes.{code_of}
use Rattle.rule_lookup.specs.Pairs.{Rule}
use Rattle.rule_lines.specs.Rows.{rule_length, stored_length}
use Rattle.cdb_files.specs.Format.{Pair, entries_of, hash_of, record_of, records_of}
use Rattle.cdb_files.specs.Image.{finished_length, records_length}
use Rattle.cdb_files.specs.Tables.{AddsEntry, AreTablesOf, HoldsByTable}
use Rattle.cdb_files.proofs.RecordLemmas.{entries_from-push, finished_length-push, length-record_bytes, records_of-push}
use Rattle.cdb_files.specs.Compiled.{pair_of, stored}
use Rattle.rules_install.specs.Layout.{ArePlaced, first_stored}
use Rattle.rules_install.specs.declared.layout.Layout.{Layout}

-- ---- how long the file is

-- the records of rules are as long as these, with eight bytes each
records_length-stored : (rules : List Rule) → records_length (stored rules) ≡ 8 * length rules + stored_length rules
records_length-stored [] = refl
records_length-stored (rule ∷ rules) =
    omega (
      arith,
      length-append (record_of (pair_of rule)) (records_of (stored rules)),
      length-record_bytes rule.address (code_of rule.instr),
      sum_by-cons rule_length rule rules,
      records_length-stored rules,
    )

pub finished_length-stored : (rules : List Rule) → finished_length (stored rules) ≡ 2048 + 24 * length rules + stored_length rules
finished_length-stored rules = omega (arith, records_length-stored rules, length-map rules pair_of)

-- ---- layout

-- at first none has a position
pub ArePlaced-none : (rules : List Rule) (layout : Layout) → layout.placed ≡ 0 → layout.end ≡ 2048 → HoldsByTable layout.tables []
    → finished_length (stored rules) < 2 ^ 32 → ArePlaced rules layout
ArePlaced-none rules layout none end held fits = record {
  inside = omega (arith, none);
  by_table = subst (λ n. HoldsByTable layout.tables (entries_of (first_stored rules n))) (sym none) held;
  begins = end ∙ sym (ap (λ n. 2048 + records_length (first_stored rules n)) none);
  fits = fits;
}

-- one rule more
first_stored-more : (rules : List Rule) (position : ℕ) (rule : Rule) → slice_get rules position ≡ Some rule
    → first_stored rules (position + 1) ≡ first_stored rules position ++ pair_of rule ∷ []
first_stored-more rules position rule at =
    map_more pair_of rules position rule (slice_get_within rules position rule at)
    ∙ ap (λ (r : Rule). first_stored rules position ++ pair_of r ∷ []) (get_or_from_slice_get rules position rule rule at)

-- a file of one rule more is as much longer
finished_length-more : (rules : List Rule) (position : ℕ) (rule : Rule) → slice_get rules position ≡ Some rule
    → finished_length (first_stored rules (position + 1)) ≡ finished_length (first_stored rules position) + 24 + length rule.address + length (code_of rule.instr)
finished_length-more rules position rule at =
    ap finished_length (first_stored-more rules position rule at) ∙ finished_length-push (first_stored rules position) (pair_of rule)

-- a file of the first rules is no longer than one of all
finished_length-le : (rules : List Rule) (position : ℕ) → finished_length (first_stored rules position) ≤ finished_length (stored rules)
finished_length-le rules position =
    let front = first_stored rules position in
    let back = stored (drop position rules) in
    let all : stored rules ≡ front ++ back = ap stored (sym (take-append-drop position rules)) ∙ map-append pair_of (take position rules) (drop position rules) in
    let records : records_length (stored rules) ≡ length (records_of front ++ records_of back) = ap records_length all ∙ ap length (flat_map-append record_of front back) in
    omega (arith, records, length-append (records_of front) (records_of back), ap length all, length-append front back)

-- there is room for the position of the next record
pub room-next : (rules : List Rule) (layout : Layout) (rule : Rule) → slice_get rules layout.placed ≡ Some rule → ArePlaced rules layout
    → (layout.end + 8 + length rule.address + length (code_of rule.instr) < 2 ^ 32) × (layout.placed < 2 ^ 32)
room-next rules layout rule at are =
    let whole = finished_length-le rules (layout.placed + 1) in (
      omega (arith, whole, finished_length-more rules layout.placed rule at, are.begins, are.fits),
      omega (arith, slice_get_within rules layout.placed rule at, are.fits, length-map rules pair_of),
    )

-- the next rule is placed behind them
pub ArePlaced-more : (rules : List Rule) (old new : Layout) (rule : Rule) → slice_get rules old.placed ≡ Some rule → ArePlaced rules old
    → AddsEntry (hash_of rule.address, old.end) old.tables new.tables → new.end ≡ old.end + 8 + length rule.address + length (code_of rule.instr)
    → new.placed ≡ old.placed + 1 → ArePlaced rules new
ArePlaced-more rules old new rule at are adds ends placed =
    let pairs = first_stored rules old.placed in
    let more = first_stored-more rules old.placed rule at in
    let entries : entries_of pairs ++ (hash_of rule.address, old.end) ∷ [] ≡ entries_of (first_stored rules (old.placed + 1)) =
    ap (λ (n : ℕ). entries_of pairs ++ (hash_of rule.address, n) ∷ []) are.begins ∙ sym (entries_from-push pairs 2048 (pair_of rule)) ∙ ap entries_of (sym more) in
    let records : records_length (first_stored rules (old.placed + 1)) ≡ length (records_of pairs ++ record_of (pair_of rule)) =
    ap records_length more ∙ ap length (records_of-push pairs (pair_of rule)) in
    let held = subst (HoldsByTable new.tables) entries (adds (entries_of pairs) are.by_table) in
    let begins : new.end ≡ 2048 + records_length (first_stored rules (old.placed + 1)) =
    omega (arith, ends, are.begins, records, length-append (records_of pairs) (record_of (pair_of rule)), length-record_bytes rule.address (code_of rule.instr)) in
    record {
      inside = omega (arith, placed, slice_get_within rules old.placed rule at);
      by_table = subst (λ n. HoldsByTable new.tables (entries_of (first_stored rules n))) (sym placed) held;
      begins = begins ∙ sym (ap (λ n. 2048 + records_length (first_stored rules n)) placed);
      fits = are.fits;
    }

-- of the first rules there are as many as were placed
pub placed-le : (rules : List Rule) (layout : Layout) → ArePlaced rules layout → layout.placed ≤ length rules
placed-le rules layout are = are.inside

-- where all rules are placed, these are the tables of the file
pub AreTablesOf-all : (rules : List Rule) (layout : Layout) → length rules ≤ layout.placed → ArePlaced rules layout
    → AreTablesOf (stored rules) layout.tables layout.end
AreTablesOf-all rules layout all are =
    let same : first_stored rules layout.placed ≡ stored rules = ap stored (take_all layout.placed rules all) in
    record {
      by_table = subst (λ (pairs : List Pair). HoldsByTable layout.tables (entries_of pairs)) same are.by_table;
      begins = are.begins ∙ ap (λ (pairs : List Pair). 2048 + records_length pairs) same;
      fits = are.fits;
    }
