-- The addresses of a range, by position.
use Rattle.std.proofs.Common.{◌≡◌, ℕ, ◌+◌, ◌<◌, List, [], ◌++◌, length, get_or, Result, Ok, Err, decimal, ap, ◌∙◌}
use Rattle.std.specs.Borrow.{Bor}
use Rattle.std.specs.Result.{OnOk}
use Rattle.std.proofs.lemmas.List.FromFn.{length-map-range_with_len, get_or-map-range_with_len}
use Rattle.rule_lines.specs.declared.spread.Numbers.{Numbers}
use Rattle.rule_lines.specs.declared.spread.ReadAddress.{ReadAddress}
use Rattle.rule_lines.specs.declared.spread.ReadAddress.TheVariants.{Range}
use Rattle.rule_lines.specs.ReadAddresses.{addresses_read}

pub length-range : (s : ReadAddress) (front back : Bor (List ℕ)) (numbers : Numbers) → s ≡ Range front numbers back → length (addresses_read s) ≡ numbers.count
length-range s front back numbers is =
    ap (λ s. length (addresses_read s)) is ∙ length-map-range_with_len (λ n. front.now ++ decimal n ++ back.now) numbers.first numbers.count

pub get_or-range : (s : ReadAddress) (front back : Bor (List ℕ)) (numbers : Numbers) (position n : ℕ) → s ≡ Range front numbers back → position < length (addresses_read s) → numbers.first + position ≡ n → get_or (addresses_read s) position [] ≡ front.now ++ decimal n ++ back.now
get_or-range s front back numbers position n is inside here =
    ap (λ s. get_or (addresses_read s) position []) is
    ∙ get_or-map-range_with_len (λ n. front.now ++ decimal n ++ back.now) numbers.first numbers.count position n [] (rw (← length-range s front back numbers is) inside) here

pub OnOk-map : {T E P Q : Type 0} (r : Result T E) → (P → Q) → OnOk r P → OnOk r Q
OnOk-map (Ok x) f p = f p
OnOk-map (Err e) f p = tt
