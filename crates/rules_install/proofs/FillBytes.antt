-- The bytes of the scratch file: those that are filled in, and the pointers in their place.
use Rattle.std.proofs.Common.{◌≡◌, ◌≢◌, ℕ, ◌+◌, ◌-◌, ◌*◌, ◌^◌, ◌<◌, ◌≤◌, Bool, true, false, List, [], ◌++◌, length, map, take, drop, refl, sym, ◌∙◌, ap, subst, arith, append_assoc, length-append, length-drop}
use Rattle.std.proofs.Math.Seq.{take-add, take-append-le, take-length, drop-drop, drop_at}
use Rattle.std.proofs.lemmas.List.{drop-append-le, drop_all}
use Rattle.std.proofs.lemmas.List.FromFn.{length-map-range_with_len}
use Rattle.std.specs.Prelude.{replicate, if◌then◌else◌}
use Rattle.std.specs.List.{range_with_len}
use Rattle.cdb_files.specs.Format.{Pair, records_of}
use Rattle.cdb_files.specs.Image.{finished_length, header_bytes, pointer_of, pointers_of, tables_of}
use Rattle.cdb_files.proofs.Positions.{length-file}
use Rattle.cdb_files.proofs.Reading.{length-two_numbers}
use Rattle.cdb_files.specs.Compiled.{stored}
use Rattle.rule_lookup.specs.Pairs.{Rule}
use Rattle.rules_install.specs.Filled.{blank_file, filled_file, fillings_left, whole_file}

-- ---- a piece of which some was appended, and what comes after it

-- some bytes more of the piece are the next bytes of the file
pub filled_more : (filled count : ℕ) (left more file : List ℕ) → left ++ more ≡ drop filled file → count ≤ length left
    → take filled file ++ take count left ≡ take (filled + count) file
filled_more filled count left more file is le =
    ap (λ (l : List ℕ). take filled file ++ l) (sym (take-append-le count left more le) ∙ ap (take count) is) ∙ sym (take-add filled count file)

-- what is left of the piece then, and what comes after it, is what is left of the file
pub left_more : (taken filled count : ℕ) (piece more file : List ℕ) → drop taken piece ++ more ≡ drop filled file
    → count ≤ length (drop taken piece) → drop (taken + count) piece ++ more ≡ drop (filled + count) file
left_more taken filled count piece more file is le =
    ap (λ (l : List ℕ). l ++ more) (sym (drop-drop count taken piece)) ∙ sym (drop-append-le count (drop taken piece) more le) ∙ ap (drop count) is ∙ drop-drop count filled file

-- it is no more than the piece
pub taken_within : (taken count : ℕ) (piece : List ℕ) → count ≤ length (drop taken piece) → taken ≤ length piece → taken + count ≤ length piece
taken_within taken count piece le within = omega (arith, length-drop taken piece)

-- it is no more than the file
pub filled_within : (filled count : ℕ) (left more file : List ℕ) → left ++ more ≡ drop filled file → count ≤ length left
    → filled ≤ length file → filled + count ≤ length file
filled_within filled count left more file is le within = omega (arith, length-append left more, length-drop filled file, ap length is)

-- some of the piece is left
pub some_left : (taken : ℕ) (piece : List ℕ) → taken ≤ length piece → taken ≢ length piece → 0 < length (drop taken piece)
some_left taken piece within other = omega (arith, length-drop taken piece)

-- where nothing is left, all of the file is filled
filled_whole : (filled : ℕ) (file : List ℕ) → drop filled file ≡ [] → filled ≤ length file → filled ≡ length file
filled_whole filled file none within = omega (arith, length-drop filled file, ap length none)

-- ---- the pointers in the place of zeros

put_over : (header zeros records tables : List ℕ) → length header ≡ length zeros
    → take 0 (zeros ++ records ++ tables) ++ header ++ drop (0 + length header) (zeros ++ records ++ tables) ≡ header ++ records ++ tables
put_over header zeros records tables same =
    ap (λ (l : List ℕ). header ++ drop (0 + length header) l) (append_assoc zeros records tables)
    ∙ ap (λ (l : List ℕ). header ++ l) (drop_at zeros (records ++ tables) (0 + length header) (omega arith)) ∙ sym (append_assoc header records tables)

same_length : (header zeros records tables : List ℕ) → length header ≡ length zeros
    → length (zeros ++ records ++ tables) ≡ length (header ++ records ++ tables)
same_length header zeros records tables same =
    omega (arith, length-append (zeros ++ records) tables, length-append zeros records, length-append (header ++ records) tables, length-append header records)

length-header : (pairs : List Pair) (n : ℕ) → length (header_bytes (map (pointer_of pairs) (range_with_len 0 n))) ≡ 8 * n
length-header pairs n =
    length-two_numbers (map (pointer_of pairs) (range_with_len 0 n)) ∙ ap (λ (k : ℕ). 8 * k) (length-map-range_with_len (pointer_of pairs) 0 n)

-- the pointers take as many bytes as the zeros
pub length-pointers : (rules : List Rule) → length (header_bytes (pointers_of (stored rules))) ≡ 2048
length-pointers rules = length-header (stored rules) 256

-- the file with zeros is as long as the whole one
pub length-blank : (rules : List Rule) → length (blank_file rules) ≡ finished_length (stored rules)
length-blank rules =
    same_length (header_bytes (pointers_of (stored rules))) (replicate 2048 255) (records_of (stored rules)) (tables_of (stored rules)) (length-pointers rules)
    ∙ length-file (stored rules) 256 refl

below_limit : (sum size finished : ℕ) → sum ≤ size → size ≡ finished → finished < 2 ^ 32 → sum < 2 ^ 32
below_limit sum size finished within same small = omega arith

-- what is filled of it is no more than its limit
pub filled_small : (rules : List Rule) (sum : ℕ) → sum ≤ length (blank_file rules) → finished_length (stored rules) < 2 ^ 32 → sum < 2 ^ 32
filled_small rules sum within small = below_limit sum (length (blank_file rules)) (finished_length (stored rules)) within (length-blank rules) small

-- the pointers, put over the zeros, make the whole file
pub pointers_over : (rules : List Rule) (header : List ℕ) → header ≡ header_bytes (pointers_of (stored rules))
    → take 0 (blank_file rules) ++ header ++ drop (0 + length header) (blank_file rules) ≡ whole_file rules
pointers_over rules header is =
    subst (λ (h : List ℕ). take 0 (blank_file rules) ++ h ++ drop (0 + length h) (blank_file rules) ≡ whole_file rules) (sym is)
    (put_over (header_bytes (pointers_of (stored rules))) (replicate 2048 255) (records_of (stored rules)) (tables_of (stored rules)) (length-pointers rules))

-- ---- a piece more

-- the next piece, where nothing is left of the one before it
pub next_left : (taken filled : ℕ) (piece next before more file : List ℕ) → drop taken piece ++ before ≡ drop filled file
    → length piece ≤ taken → before ≡ next ++ more → drop 0 next ++ more ≡ drop filled file
next_left taken filled piece next before more file is none split = sym split ∙ ap (λ (l : List ℕ). l ++ before) (sym (drop_all taken piece none)) ∙ is

-- where there is no piece any more, all of the file is filled
pub none_left : (taken filled : ℕ) (piece before file : List ℕ) → drop taken piece ++ before ≡ drop filled file → length piece ≤ taken
    → before ≡ [] → filled ≤ length file → filled ≡ length file
none_left taken filled piece before file is none last within =
    filled_whole filled file (sym is ∙ ap (λ (l : List ℕ). l ++ before) (drop_all taken piece none) ∙ last) within

-- ---- what is left to fill

-- all of the file is there, with zeros for its pointers
pub blank_filled : (rules : List Rule) (filled : ℕ) (patched : Bool) → patched ≡ false → filled ≡ length (blank_file rules)
    → filled_file rules filled patched ≡ blank_file rules
blank_filled rules filled patched none all =
    ap (λ (p : Bool). filled_file rules filled p) none ∙ ap (λ (n : ℕ). take n (blank_file rules)) all ∙ take-length (blank_file rules)

less_by_one : (n : ℕ) (patched : Bool) → patched ≡ false → n + 0 < n + (if patched then 0 else 1)
less_by_one n patched none = subst (λ (p : Bool). n + 0 < n + (if p then 0 else 1)) (sym none) (omega arith)

less_by : (size filled count more : ℕ) → 0 < count → filled + count ≤ size → (size - (filled + count)) + more < (size - filled) + more
less_by size filled count more some within = omega arith

-- the pointers are one filling
pub pointers_less : (rules : List Rule) (filled : ℕ) (patched : Bool) → patched ≡ false
    → fillings_left rules filled true < fillings_left rules filled patched
pointers_less rules filled patched none = less_by_one (length (blank_file rules) - filled) patched none

-- bytes are so many
pub bytes_less : (rules : List Rule) (filled count : ℕ) (patched : Bool) → 0 < count → filled + count ≤ length (blank_file rules)
    → fillings_left rules (filled + count) patched < fillings_left rules filled patched
bytes_less rules filled count patched some within = less_by (length (blank_file rules)) filled count (if patched then 0 else 1) some within
