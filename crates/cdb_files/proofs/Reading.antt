-- Numbers are read back where they were written.
use Rattle.std.proofs.Common.{◌≡◌, ℕ, zero, suc, ◌+◌, ◌*◌, ◌<◌, List, [], ◌∷◌, ◌++◌, length, drop, refl, sym, ap, ◌∙◌, arith, append_assoc, length-append}
use Rattle.std.proofs.lemmas.List.{drop-drop, drop_at}
use Rattle.std.specs.List.{flat_map}
use Rattle.byteorder.specs.Endian.{little_number}
use Rattle.byteorder.specs.Numbers.{little_number-reads_back}
use Rattle.cdb_files.specs.Format.{number, two_numbers, two_numbers_at}
use Rattle.cdb_files.proofs.Placing.{entry}
use Rattle.cdb_files.proofs.Entries.{AreFit}

-- eight bytes each
pub length-two_numbers : (xs : List (ℕ × ℕ)) → length (flat_map two_numbers xs) ≡ 8 * length xs
length-two_numbers [] = refl
length-two_numbers (x ∷ xs) = omega (arith, length-two_numbers xs)

-- two numbers between bytes
reads_two : (before after : List ℕ) (p : ℕ × ℕ) → AreFit p → two_numbers_at (before ++ (two_numbers p ++ after)) (length before) ≡ p
reads_two before after p fit =
    let rest = two_numbers p ++ after in
    let at = drop_at before rest (length before) refl in
    let first = ap (little_number 4) at ∙ little_number-reads_back 4 p.0 (number p.1 ++ after) fit.0 in
    let past = sym (drop-drop 4 (length before) (before ++ rest)) ∙ ap (drop 4) at in
    let second = ap (little_number 4) past ∙ little_number-reads_back 4 p.1 after fit.1 in
    λ i. (first i, second i)

-- the i-th of many
pub reads_nth : (xs : List (ℕ × ℕ)) (before after : List ℕ) (i : ℕ) → ((k : ℕ) → k < length xs → AreFit (entry xs k)) → i < length xs
    → two_numbers_at (before ++ (flat_map two_numbers xs ++ after)) (length before + 8 * i) ≡ entry xs i
reads_nth [] before after i fit l = absurd (omega arith)
reads_nth (x ∷ xs) before after zero fit l =
    let position : length before + 8 * 0 ≡ length before = omega arith in
    ap (two_numbers_at (before ++ (two_numbers x ++ (flat_map two_numbers xs ++ after)))) position
    ∙ reads_two before (flat_map two_numbers xs ++ after) x (fit 0 (omega arith))
reads_nth (x ∷ xs) before after (suc i) fit l =
    let rest = flat_map two_numbers xs ++ after in
    let size = length-append before (two_numbers x) in
    let position : length before + 8 * suc i ≡ length (before ++ two_numbers x) + 8 * i = omega (arith, size) in
    ap (two_numbers_at (before ++ (two_numbers x ++ rest))) position
    ∙ ap (λ (file : List ℕ). two_numbers_at file (length (before ++ two_numbers x) + 8 * i)) (sym (append_assoc before (two_numbers x) rest))
    ∙ reads_nth xs (before ++ two_numbers x) after i (λ k m. fit (suc k) (omega arith)) (omega arith)
