-- An address in lower case from its first `=` on, where it stands at the end of a list of bytes.
use Rattle.std.proofs.Common.{◌≡◌, ℕ, suc, ◌+◌, ◌-◌, ◌≤◌, Bool, true, false, cond, not, List, [], ◌∷◌, ◌++◌, map, length, take, drop, eqb, refl, sym, ap, ◌∙◌, arith, append_assoc, length-append, length-drop}
use Rattle.std.specs.Char.{to_ascii_lowercase}
use Rattle.std.specs.List.{position_or_len}
use Rattle.std.proofs.Math.Seq.{take-append-add, drop-append-add}
use Rattle.std.proofs.lemmas.List.{append-nil, length-map, length-take-le, take-append-drop, take_all, take_at, drop_all, drop_at}
use Rattle.rule_lookup.specs.Spread.{folded}
use borrow.Rule.Slice.PartMut.{put_mid}

-- putting letters into lower case leaves their number
pub length-folded : (address : List ℕ) → length (folded address) ≡ length address
length-folded address =
    let position = position_or_len (λ b. eqb b 61) address in
    let tail = length-map (drop position address) to_ascii_lowercase in
    let joined = length-append (take position address) (map to_ascii_lowercase (drop position address)) in
    let whole = length-append (take position address) (drop position address) in
    let same = ap length (take-append-drop position address) in
    omega arith

-- the end of a list put into lower case from the first `=` of the address that stands there
pub put_mid-folded : (out address : List ℕ) (at count : ℕ) → at ≡ length out + position_or_len (λ b. eqb b 61) address → count ≡ length (out ++ address) - at → put_mid at count (out ++ address) (map to_ascii_lowercase (take count (drop at (out ++ address)))) ≡ out ++ folded address
put_mid-folded out address at count at_is count_is =
    let position = position_or_len (λ b. eqb b 61) address in
    let front : take at (out ++ address) ≡ out ++ take position address = ap (λ n. take n (out ++ address)) at_is ∙ take-append-add out address position in
    let tail : drop at (out ++ address) ≡ drop position address = ap (λ n. drop n (out ++ address)) at_is ∙ drop-append-add out address position in
    let enough : length (drop at (out ++ address)) ≤ count = omega (arith, length-drop at (out ++ address)) in
    let whole : take count (drop at (out ++ address)) ≡ drop position address = take_all count (drop at (out ++ address)) enough ∙ tail in
    let nothing : drop count (drop at (out ++ address)) ≡ [] = drop_all count (drop at (out ++ address)) enough in
    rw (front, whole, nothing, append-nil) (append_assoc out (take position address) (map to_ascii_lowercase (drop position address)))

-- the same list, cut to its length
pub take-folded : (out address items rest : List ℕ) (n : ℕ) → items ≡ out ++ folded address → n ≡ length (out ++ address) → take n (items ++ rest) ≡ out ++ folded address
take-folded out address items rest n items_are n_is =
    let long : length items ≡ n = omega (arith, ap length items_are, length-append out (folded address), length-append out address, length-folded address) in
    take_at items rest n long ∙ items_are

-- what is left where the end of the bytes is put into lower case in its place
pub append_folded-is : (out address held lowered rest : List ℕ) (at n : ℕ) → held ≡ out ++ address → at ≡ length out + position_or_len (λ b. eqb b 61) address → lowered ≡ map to_ascii_lowercase (take (length held - at) (drop at held)) → n ≡ length (out ++ address) → take n (put_mid at (length held - at) held lowered ++ rest) ≡ out ++ folded address
append_folded-is out address held lowered rest at n held_is at_is lowered_is n_is =
    rw (lowered_is, held_is) (take-folded out address (put_mid at (length (out ++ address) - at) (out ++ address) (map to_ascii_lowercase (take (length (out ++ address) - at) (drop at (out ++ address))))) rest n (put_mid-folded out address at (length (out ++ address) - at) at_is refl) n_is)

-- bytes written over others leave the length
pub length-put_mid : (at count : ℕ) (held written : List ℕ) → length written ≡ count → at + count ≤ length held → length (put_mid at count held written) ≡ length held
length-put_mid at count held written long inside =
    omega (arith, length-append (take at held) (written ++ drop count (drop at held)), length-append written (drop count (drop at held)), length-take-le at held (omega arith), length-drop count (drop at held), length-drop at held)

-- a first position is within the bytes
first-bound : (b : Bool) (r n : ℕ) → r ≤ n → cond (not b) (1 + r) 0 ≤ suc n
first-bound true r n within = omega arith
first-bound false r n within = omega arith

position_or_len-le : (p : ℕ → Bool) (bs : List ℕ) → position_or_len p bs ≤ length bs
position_or_len-le p [] = omega arith
position_or_len-le p (b ∷ bs) = first-bound (p b) (position_or_len p bs) (length bs) (position_or_len-le p bs)

-- bytes that begin as an address does up to its first `=`, or that are the rest of it in lower case
module _ (address bytes : List ℕ) (at : ℕ) (is : at ≡ position_or_len (λ b. eqb b 61) address) where
  pub folded-joined : take at address ≡ take at bytes → map to_ascii_lowercase (drop at address) ≡ drop at bytes → folded address ≡ bytes
  folded-joined front back =
      (λ i. take (sym is i) address ++ map to_ascii_lowercase (drop (sym is i) address)) ∙ (λ i. front i ++ back i) ∙ take-append-drop at bytes

  long : length (take at address) ≡ at
  long = length-take-le at address (omega (arith, is, position_or_len-le (λ b. eqb b 61) address))

  pub folded-cut : folded address ≡ bytes → (take at address ≡ take at bytes) × (map to_ascii_lowercase (drop at address) ≡ drop at bytes) × (length address ≡ length bytes)
  folded-cut same =
      let parts : take at address ++ map to_ascii_lowercase (drop at address) ≡ bytes = (λ i. take (is i) address ++ map to_ascii_lowercase (drop (is i) address)) ∙ same in (
        sym (take_at (take at address) (map to_ascii_lowercase (drop at address)) at long) ∙ ap (take at) parts,
        sym (drop_at (take at address) (map to_ascii_lowercase (drop at address)) at long) ∙ ap (drop at) parts,
        sym (length-folded address) ∙ ap length same,
      )
