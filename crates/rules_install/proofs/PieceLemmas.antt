-- The bytes of the pieces: those of one record or table, and those of all after it.
use Rattle.std.proofs.Common.{◌≡◌, ℕ, suc, ◌+◌, ◌-◌, ◌*◌, ◌<◌, ◌≤◌, List, [], ◌∷◌, ◌++◌, Bool, true, false, Option, None, Some, length, get_or, drop, replicate, flat_map, slice_get, refl, sym, ap, ◌∙◌, inl, inr, arith, append_assoc, length-set}
use Rattle.std.specs.List.{fold, range_with_len}
use Rattle.std.proofs.lemmas.Bool.{false≢true}
use Rattle.std.proofs.lemmas.List.{at_drop_all, drop_more, get_or-map, length-map, length-replicate, nil_from_length}
use Rattle.std.proofs.lemmas.List.Folds.{length-flat_map-take}
use Rattle.std.proofs.lemmas.Option.{get_or_from_slice_get, none-some, slice_get_cases, slice_get_within}
use Rattle.rule_lookup.specs.Codes.{code_of}
use Rattle.rule_lines.specs.Kept.{IsStored}
use Rattle.rule_lookup.specs.Pairs.{Rule}
use Rattle.cdb_files.specs.Format.{Pair, record_of, records_of, two_numbers}
use Rattle.cdb_files.specs.Image.{finished_length, free_slot, records_length, slots_of, table_bytes, with_entry}
use Rattle.cdb_files.proofs.RecordLemmas.{length-record_bytes}
use Rattle.cdb_files.specs.Compiled.{pair_of, stored}

-- past the last rule there is none
pub past_from_none : (rules : List Rule) (i : ℕ) → slice_get rules i ≡ None → length rules ≤ i
past_from_none rules i none = elim (slice_get_cases rules i).1 [
  | inl (rule, inside, some, here) ↦ absurd (none-some rule (sym none ∙ some))
  | inr (past, same) ↦ past
]

-- the records from a rule on are its own and those after it
pub records-more : (rules : List Rule) (i : ℕ) (rule : Rule) → slice_get rules i ≡ Some rule
    → records_of (drop i (stored rules)) ≡ record_of (pair_of rule) ++ records_of (drop (i + 1) (stored rules))
records-more rules i rule at =
    let inside : i < length rules = slice_get_within rules i rule at in
    let here : get_or rules i rule ≡ rule = get_or_from_slice_get rules i rule rule at in
    let long : i < length (stored rules) = omega (arith, length-map rules pair_of) in
    ap records_of (drop_more (stored rules) i (pair_of rule) long)
    ∙ ap (λ (p : Pair). record_of p ++ records_of (drop (i + 1) (stored rules))) (get_or-map pair_of rules i rule (pair_of rule) inside ∙ ap pair_of here)

-- and past the last rule there are none
pub records-past : (rules : List Rule) (i : ℕ) → length rules ≤ i → records_of (drop i (stored rules)) ≡ []
records-past rules i past = at_drop_all records_of (stored rules) i (omega (arith, length-map rules pair_of))

-- the record of a rule is one of the records
pub rule-fits : (rules : List Rule) (i : ℕ) (rule : Rule) → slice_get rules i ≡ Some rule
    → 8 + length rule.address + length (code_of rule.instr) ≤ records_length (stored rules)
rule-fits rules i rule at =
    let inside : i < length rules = slice_get_within rules i rule at in
    let long : i < length (stored rules) = omega (arith, length-map rules pair_of) in
    let here : get_or (stored rules) i (pair_of rule) ≡ pair_of rule =
    get_or-map pair_of rules i rule (pair_of rule) inside ∙ ap pair_of (get_or_from_slice_get rules i rule rule at) in
    omega (arith, length-flat_map-take record_of (stored rules) i (pair_of rule) long, ap (λ (p : Pair). length (record_of p)) here, length-record_bytes rule.address (code_of rule.instr))

-- the position of a rule is below the length of the file
pub position-fits : (rules : List Rule) (i : ℕ) (rule : Rule) → slice_get rules i ≡ Some rule → i + 1 ≤ finished_length (stored rules)
position-fits rules i rule at = omega (arith, slice_get_within rules i rule at, length-map rules pair_of)

-- bytes before others, however they are joined
pub behind : (first second front records tables : List ℕ) → front ≡ first → records ≡ second
    → (front ++ records) ++ tables ≡ first ++ (second ++ tables)
behind first second front records tables e f =
    append_assoc front records tables ∙ ap (λ (bytes : List ℕ). bytes ++ (records ++ tables)) e ∙ ap (λ (bytes : List ℕ). first ++ (bytes ++ tables)) f

-- the parts from one number on are its own and those after it
pub parts-more : (f : ℕ → List ℕ) (t n : ℕ) → t < n
    → flat_map f (range_with_len t (n - t)) ≡ f t ++ flat_map f (range_with_len (t + 1) (n - (t + 1)))
parts-more f t n inside =
    let count : n - t ≡ suc (n - (t + 1)) = omega arith in
    ap (λ (k : ℕ). flat_map f (range_with_len t k)) count

-- and past the last number there are none
pub parts-past : (f : ℕ → List ℕ) (t n : ℕ) → n ≤ t → flat_map f (range_with_len t (n - t)) ≡ []
parts-past f t n past =
    let count : n - t ≡ 0 = omega arith in
    ap (λ (k : ℕ). flat_map f (range_with_len t k)) count

-- a table without records has no bytes
pub table_bytes-none : (entries : List (ℕ × ℕ)) → length entries ≡ 0 → table_bytes entries ≡ []
table_bytes-none entries none = ap table_bytes (nil_from_length entries none)

-- records take slots, and leave as many as there were
length-fold_with_entry : (slots entries : List (ℕ × ℕ)) → length (fold with_entry slots entries) ≡ length slots
length-fold_with_entry slots [] = refl
length-fold_with_entry slots (e ∷ entries) =
    length-fold_with_entry (with_entry slots e) entries ∙ length-set slots (free_slot e.0 slots) e

-- eight bytes for each slot
length-two_numbers : (slots : List (ℕ × ℕ)) → length (flat_map two_numbers slots) ≡ 8 * length slots
length-two_numbers [] = refl
length-two_numbers (slot ∷ slots) = omega (arith, length-two_numbers slots)

-- a table with records has bytes
pub table_bytes-some : (entries : List (ℕ × ℕ)) → 0 < length entries → 0 < length (table_bytes entries)
table_bytes-some entries some =
    let empty : ℕ × ℕ = (0, 0) in
    omega (arith, length-two_numbers (slots_of entries), length-fold_with_entry (replicate (2 * length entries) empty) entries, length-replicate (2 * length entries) empty)

-- the rule that was written
pub stored-here : (at : Option Rule) (found : Bool) (key code : List ℕ) → IsStored at found key code → found ≡ true → (rule : Rule)
    × (at ≡ Some rule) × (key ≡ rule.address) × (code ≡ code_of rule.instr)
stored-here None found key code is holds = absurd (false≢true (sym is ∙ holds))
stored-here (Some rule) found key code is holds = (rule, refl, is.1, is.2)

-- and that there was none
pub stored-none : (at : Option Rule) (found : Bool) (key code : List ℕ) → IsStored at found key code → found ≡ false → at ≡ None
stored-none None found key code is fails = refl
stored-none (Some rule) found key code is fails = absurd (false≢true (sym fails ∙ is.0))
