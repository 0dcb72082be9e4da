-- The lines of a record, line by line.
use Rattle.std.proofs.Common.{◌≡◌, ℕ, List, [], ◌∷◌, ◌++◌, length, take, false, eqb, ap, sym, ◌∙◌, refl, append_assoc}
use Rattle.std.specs.Prelude.{Err, Ok, OnOk, Result, codes}
use Rattle.std.specs.declared.alloc.AllocError.{AllocError}
use Rattle.memchr.specs.Find.{NoneBefore, Nowhere, Passes, is_byte}
use Rattle.byte_streams.specs.declared.recording.Way.{Way}
use Rattle.byte_streams.specs.Records.{before_part, line_text, record_text, rest_text}
use Rattle.byte_streams.specs.Wrapped.{written}
use Rattle.byte_streams.proofs.PartLemmas.{behind, parts_of-at, parts_of-none, written-line}

module _ (number : ℕ) (way : Way) where
  pub record_text-at : (text : List ℕ) (k : ℕ) → NoneBefore (Passes (is_byte 10) text) 0 (length text) k × Passes (is_byte 10) text k → record_text number way text ≡ line_text number way (take k text) ++ record_text number way (behind text k)
  record_text-at text k found =
      ap (written (line_text number way) (rest_text number way)) (parts_of-at text k found)
      ∙ written-line (line_text number way) (rest_text number way) (take k text) (behind text k)

  record_text-none : (text : List ℕ) → Nowhere (Passes (is_byte 10) text) 0 (length text) → record_text number way text ≡ rest_text number way text
  record_text-none text none = ap (written (line_text number way) (rest_text number way)) (parts_of-none text none)

  rest_text-some : (text : List ℕ) → false ≡ eqb (length text) 0 → rest_text number way text ≡ before_part number way ++ text ++ codes "+\n"
  rest_text-some [] some = absurd (cc)
  rest_text-some (b ∷ bs) some = refl

  -- the rest of a piece is recorded
  pub ends_record : (result : Result (Unit {0}) AllocError) (piece text out given so_far after : List ℕ) → false ≡ eqb (length text) 0 → Nowhere (Passes (is_byte 10) text) 0 (length text) → so_far ≡ out ++ given → record_text number way piece ≡ given ++ record_text number way text → OnOk result (after ≡ so_far ++ (before_part number way ++ text ++ codes "+\n")) → OnOk result (after ≡ out ++ record_text number way piece)
  ends_record (Ok _) piece text out given so_far after some none is whole is_after =
      let line = before_part number way ++ text ++ codes "+\n" in
      is_after ∙ ap (λ x. x ++ line) is ∙ append_assoc out given line
      ∙ ap (λ x. out ++ x) (ap (λ x. given ++ x) (sym (record_text-none text none ∙ rest_text-some text some)) ∙ sym whole)
  ends_record (Err _) piece text out given so_far after some none is whole is_after = tt
