-- What is written into the room of a key: an address, and a name in lower case after it.
use borrow.Rule.Slice.PartMut.{mid_of, post_of, put_mid}
use Rattle.std.proofs.Common.{◌≡◌, ℕ, ◌+◌, ◌-◌, ◌≤◌, List, ◌++◌, length, take, cond, map, Some, None, sym, ap, ◌∙◌, length-append, length-take, arith}
use Rattle.std.specs.Char.{to_ascii_lowercase}
use Rattle.std.proofs.lemmas.Bool.{le-leb}
use Rattle.std.proofs.lemmas.List.{length-map}
use Rattle.std.proofs.lemmas.Slice.{between-put_mid, take-put_mid, take-put_mid_below}
use Rattle.std.proofs.Math.Seq.{take-append_seam}
use Rattle.child_jobs.specs.HostMaps.{key_of}
use Rattle.child_jobs.specs.HostRows.{lower}

pub address_length : (room first ip : List ℕ) → length room ≡ 259 → length first ≡ length (take 4 room) → first ≡ ip → length ip ≡ 4
address_length room first ip wide long is =
    let front = length-take 4 room in
    let same : length first ≡ length ip = ap length is in
    omega arith

module _ (room ip name first second third : List ℕ) (wide : length room ≡ 259) (short : length name ≤ 255) (long : length first ≡ length (take 4 room)) (is_ip : first ≡ ip) (is_name : second ≡ name) where
  -- the room with the address, and then with the name
  abbrev addressed : List ℕ
  addressed = first ++ post_of 0 4 room

  abbrev named : List ℕ
  named = put_mid 4 (4 + length name - 4) addressed second

  four : length first ≡ 4
  four = ap length is_ip ∙ address_length room first ip wide long is_ip

  addressed_wide : 4 ≤ length addressed
  addressed_wide = omega (arith, four, length-append first (post_of 0 4 room))

  second_length : length second ≡ length name
  second_length = ap length is_name

  front : take 4 named ≡ ip
  front =
      take-put_mid_below 4 (4 + length name - 4) addressed second 4 (omega arith) addressed_wide
      ∙ ap (λ n. take n addressed) (sym four)
      ∙ take-append_seam first (post_of 0 4 room)
      ∙ is_ip

  named_wide : 4 ≤ length named
  named_wide =
      let whole = length-append (take 4 addressed) (second ++ post_of 4 (4 + length name - 4) addressed) in
      let head = length-take 4 addressed in
      omega (arith, addressed_wide)

  middle : mid_of 4 (4 + length name - 4) named ≡ name
  middle =
      between-put_mid 4 (4 + length name - 4) addressed second (4 + length name) addressed_wide (omega (arith, second_length)) ∙ is_name

  pub key_written : third ≡ map to_ascii_lowercase (mid_of 4 (4 + length name - 4) named) → Some (take (4 + length name) (put_mid 4 (4 + length name - 4) named third)) ≡ key_of name ip
  key_written lowered =
      let is_lower : third ≡ lower name = lowered ∙ ap (map to_ascii_lowercase) middle in
      let as_long : length third ≡ length name = ap length is_lower ∙ simp length-map in
      ap Some (take-put_mid 4 (4 + length name - 4) named third (4 + length name) (omega arith) named_wide ∙ ap (λ (xs : List ℕ). xs ++ third) front ∙ ap (λ (xs : List ℕ). ip ++ xs) is_lower)
      ∙ sym (ap (λ b. cond b (Some (ip ++ lower name)) None) (le-leb (length name) 255 short))
