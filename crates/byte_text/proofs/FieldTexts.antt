-- What is printed of a field.
use Rattle.std.proofs.Common.{◌≡◌, ℕ, ◌<◌, ◌≤◌, List, ◌++◌, length, map, take, min, codes, sym, ap, ◌∙◌, arith}
use Rattle.std.proofs.lemmas.Bool.{lt-ltb, le-ltb}
use Rattle.std.proofs.lemmas.List.{append-nil, take_all, take_min}
use Rattle.byte_text.specs.Fields.{field_text, mark}

-- a text cut at a length, once each of its bytes was gone through
pub take-printed : (bytes : List ℕ) (most n i : ℕ) → n ≡ min (length bytes) most → length (take n bytes) ≤ i → take i (take n bytes) ≡ take most bytes
take-printed bytes most n i is end =
    let cut : n ≡ min most (length bytes) = omega arith in
    take_all i (take n bytes) end ∙ ap (λ (k : ℕ). take k bytes) cut ∙ take_min most bytes

-- a field of fewer bytes than a hundred has no dots
pub field_text-short : (bytes : List ℕ) → length bytes < 100 → map mark (take 100 bytes) ≡ field_text bytes
field_text-short bytes short = rw (lt-ltb (length bytes) 100 short) (sym (append-nil (map mark (take 100 bytes))))

-- and a longer one has them
pub field_text-long : (bytes : List ℕ) → 100 ≤ length bytes → map mark (take 100 bytes) ++ codes "..." ≡ field_text bytes
field_text-long bytes long = rw (le-ltb (length bytes) 100 long)
