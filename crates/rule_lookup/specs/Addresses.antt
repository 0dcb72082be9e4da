-- IPv4 addresses as text: four decimal numbers from 0 to 255 without leading zeros, with dots between them.
use Rattle.std.specs.Prelude.{ℕ, ◌==◌, List, [], ◌∷◌, Option, None, option_map, option_and_then, find, bytes_eq, decimal}
use Rattle.std.specs.List.{range_with_len, slice_split}

-- the number from 0 to 255 with this decimal text
abbrev pub octet_in : List ℕ → Option ℕ
octet_in word = find (λ n. bytes_eq (decimal n) word) (range_with_len 0 256)

-- what a function makes of the number that a word says, if it says one
abbrev pub with_octet : List ℕ → (ℕ → Option (List ℕ)) → Option (List ℕ)
with_octet word makes = option_and_then makes (octet_in word)

-- the numbers that four words say
abbrev pub octets_in : List (List ℕ) → Option (List ℕ)
octets_in (a ∷ b ∷ c ∷ d ∷ []) =
    with_octet a (λ x. with_octet b (λ y. with_octet c (λ z. option_map (λ w. x ∷ y ∷ z ∷ w ∷ []) (octet_in d))))
octets_in words = None

-- the address that a text says
unfoldable pub ipv4_in : List ℕ → Option (List ℕ)
ipv4_in text = octets_in (slice_split (λ b. b == 46) text)
