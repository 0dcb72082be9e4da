-- How long the lines of a record are.
use Rattle.std.proofs.Common.{◌≡◌, ℕ, zero, suc, ◌+◌, ◌*◌, ◌^◌, ◌<◌, ◌≤◌, nat_lt, Bool, true, false, cond, eqb, List, [], ◌∷◌, ◌++◌, length, codes, decimal, refl, sym, ap, ◌∙◌, arith, length-append, length-take, take, Result, Ok, Err, OnOk, OnErr, if◌then◌else◌}
use Rattle.std.specs.List.{onto_first}
use Rattle.std.specs.declared.alloc.AllocError.{AllocError}
use Rattle.std.proofs.lemmas.Fmt.{length-decimal-le}
use Rattle.std.proofs.lemmas.Bool.{ltb-true}
use Rattle.std.proofs.lemmas.Nat.{mul-le}
use Rattle.byte_streams.specs.declared.recording.Way.{Way}
use Rattle.byte_streams.specs.declared.recording.Way.TheVariants.{Input, Output}
use Rattle.byte_streams.specs.Records.{before_part, line_text, longest_piece, record_text, rest_text, way_text}
use Rattle.byte_streams.specs.Wrapped.{parts_of, written}
use Rattle.byte_streams.proofs.PartLemmas.{has_first, parts_of-other, written-line}

-- so much for each byte, and once more
abbrev bound : ℕ → ℕ → ℕ
bound most zero = most
bound most (suc n) = most + bound most n

bound_is : (most n : ℕ) → bound most n ≡ (n + 1) * most
bound_is most zero = omega arith
bound_is most (suc n) = omega (arith, bound_is most n)

length_way : (way : Way) → length (way_text way) ≡ 3
length_way Input = refl
length_way Output = refl

length_between : (before part behind : List ℕ) → length (before ++ part ++ behind) ≡ length before + (length part + length behind)
length_between before part behind = omega (arith, length-append (before ++ part) behind, length-append before part)

module _ (number : ℕ) (way : Way) where
  -- a rest that has a line even where it is nothing
  abbrev whole_rest : List ℕ → List ℕ
  whole_rest part = before_part number way ++ part ++ codes "+\n"

  length_before : length (before_part number way) ≡ length (decimal number) + 3
  length_before = length-append (decimal number) (way_text way) ∙ ap (λ n. length (decimal number) + n) (length_way way)

  length_line : (part : List ℕ) → length (line_text number way part) ≡ length (before_part number way) + (length part + 2)
  length_line part = length_between (before_part number way) part (codes " \n")

  length_whole : (part : List ℕ) → length (whole_rest part) ≡ length (before_part number way) + (length part + 2)
  length_whole part = length_between (before_part number way) part (codes "+\n")

  same_rest : (b : ℕ) (bs : List ℕ) → rest_text number way (b ∷ bs) ≡ whole_rest (b ∷ bs)
  same_rest b bs = refl

  length_rest : (part : List ℕ) → length (rest_text number way part) ≤ length (whole_rest part)
  length_rest [] = omega arith
  length_rest (b ∷ bs) = omega (arith, ap length (same_rest b bs))

  abbrev record_by : List (List ℕ) → List ℕ
  record_by = written (line_text number way) whole_rest

  record_by-line : (part next : List ℕ) (parts : List (List ℕ)) → length (record_by (part ∷ next ∷ parts)) ≡ length (line_text number way part) + length (record_by (next ∷ parts))
  record_by-line part next parts = length-append (line_text number way part) (record_by (next ∷ parts))

  length_record : (parts : List (List ℕ)) → length (written (line_text number way) (rest_text number way) parts) ≤ length (record_by parts)
  length_record [] = omega arith
  length_record (part ∷ []) = length_rest part
  length_record (part ∷ next ∷ parts) =
      let behind = written (line_text number way) (rest_text number way) (next ∷ parts) in
      let cut : length (line_text number way part ++ behind) ≡ length (line_text number way part) + length behind = length-append (line_text number way part) behind in
      omega (arith, length_record (next ∷ parts), cut, record_by-line part next parts)

  -- another byte before the first part
  length_onto : (b : ℕ) (first : List ℕ) (more : List (List ℕ)) → length (record_by ((b ∷ first) ∷ more)) ≡ suc (length (record_by (first ∷ more)))
  length_onto b first [] = omega (arith, length_whole (b ∷ first), length_whole first)
  length_onto b first (next ∷ more) =
      omega (arith, record_by-line (b ∷ first) next more, record_by-line first next more, length_line (b ∷ first), length_line first)

  -- a line feed before a text
  length_feed : (b : ℕ) (text : List ℕ) → eqb b 10 ≡ true → length (record_by (parts_of (b ∷ text))) ≡ length (line_text number way []) + length (record_by (parts_of text))
  length_feed b text feed =
      ap (λ t. length (record_by (cond t ([] ∷ parts_of text) (onto_first b (parts_of text))))) feed
      ∙ ap length (written-line (line_text number way) whole_rest [] text)
      ∙ length-append (line_text number way []) (record_by (parts_of text))

  length_other : (b : ℕ) (text : List ℕ) → eqb b 10 ≡ false → length (record_by (parts_of (b ∷ text))) ≡ suc (length (record_by (parts_of text)))
  length_other b text other =
      let h = has_first text in
      ap (λ parts. length (record_by parts)) (parts_of-other b text other h)
      ∙ length_onto b h.first h.more
      ∙ ap (λ parts. suc (length (record_by parts))) (sym h.is)

  module _ (most : ℕ) (short : length (decimal number) + 5 ≤ most) where
    within_more : (b : ℕ) (text : List ℕ) (t : Bool) → eqb b 10 ≡ t → length (record_by (parts_of text)) ≤ bound most (length text) → length (record_by (parts_of (b ∷ text))) ≤ bound most (suc (length text))
    within_more b text true feed so_far = omega (arith, short, length_before, length_line [], length_feed b text feed)
    within_more b text false other so_far = omega (arith, short, length_other b text other)

    within : (text : List ℕ) → length (record_by (parts_of text)) ≤ bound most (length text)
    within [] = omega (arith, short, length_before, length_whole [])
    within (b ∷ bs) = within_more b bs (eqb b 10) refl (within bs)

    record_within : (piece : List ℕ) (longest : ℕ) → length piece ≤ longest → length (record_text number way piece) ≤ (longest + 1) * most
    record_within piece longest fits =
        omega (
          arith,
          length_record (parts_of piece),
          within piece,
          bound_is most (length piece),
          mul-le (length piece + 1) most (longest + 1) most (omega arith) (omega arith),
        )

module _ (number : ℕ) (in_word : number < 2 ^ 64) (way : Way) where
  record_fits_by : (t : Bool) → nat_lt number (10 ^ 10) ≡ t → (piece : List ℕ) → length piece ≤ (if t then 256 else 160) → length (record_text number way piece) ≤ 4096
  record_fits_by true small piece short =
      let digits : length (decimal number) + 5 ≤ 15 = omega (arith, length-decimal-le 10 number (omega arith) (ltb-true number (10 ^ 10) small) in_word) in
      omega (arith, record_within number way 15 digits piece 256 short)
  record_fits_by false big piece short =
      let digits : length (decimal number) + 5 ≤ 25 = omega (arith, length-decimal-le 20 number (omega arith) (omega arith) in_word) in
      omega (arith, record_within number way 25 digits piece 160 short)

  pub record_fits : (piece : List ℕ) → length piece ≤ longest_piece number → length (record_text number way piece) ≤ 4096
  record_fits piece short = record_fits_by (nat_lt number (10 ^ 10)) refl piece short

  -- the line of the end, as it is put together
  pub end_fits : length (before_part number way ++ [] ++ codes "[EOF]\n") ≤ 4096
  end_fits =
      omega (
        arith,
        length_before number way,
        length_between (before_part number way) [] (codes "[EOF]\n"),
        length-decimal-le 20 number (omega arith) (omega arith) in_word,
      )

-- what was added fits, or was taken back
pub added_fits : (done : Result (Unit {0}) AllocError) (old lines mid new : List ℕ) (before : ℕ)
    → before ≡ length old → OnOk done (mid ≡ old ++ lines) → OnOk done (new ≡ mid) → OnErr done (new ≡ take before mid)
    → length lines ≤ 4096 → length new ≤ length old + 4096
added_fits (Ok _) old lines mid new before is added kept cut fits = omega (arith, ap length kept, ap length added, length-append old lines)
added_fits (Err _) old lines mid new before is added kept cut fits = omega (arith, is, ap length cut, length-take before mid)
