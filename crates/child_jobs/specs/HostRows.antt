-- The lines of a host table, and what they say.
use Rattle.std.specs.Prelude.{ℕ, ◌+◌, Bool, true, false, ◌&&◌, ◌==◌, not, nat_le, nat_lt, List, [], ◌∷◌, map, length, drop, Option, Some, None, bytes_eq, if◌then◌else◌}
use Rattle.std.specs.Char.{to_ascii_lowercase}
use Rattle.std.specs.List.{list_any, list_all, take_while}
use Rattle.rule_lookup.specs.Lines.{Line, lines_of, trimmed, is_blank}
use Rattle.rule_lookup.specs.Addresses.{ipv4_in}

-- a line is ignored, gives an address a name, says that a name has an address, or is bad
pub data Row : Type 0 where
  ignored : Row
  gives : List ℕ → List ℕ → Row
  says : List ℕ → List ℕ → Row
  bad : Row

-- visible ASCII characters
abbrev pub are_visible : List ℕ → Bool
are_visible bytes = list_all (λ b. nat_le 33 b && nat_le b 126) bytes

-- a name has 1 to 255 visible ASCII characters
abbrev pub is_host_name : List ℕ → Bool
is_host_name name = nat_lt 0 (length name) && nat_le (length name) 255 && are_visible name

abbrev pub lower : List ℕ → List ℕ
lower name = map to_ascii_lowercase name

-- the first word of a line, and what stands after the blanks that follow it
abbrev pub first_word : List ℕ → List ℕ
first_word line = take_while (λ b. not (is_blank b)) line

abbrev pub after_blanks : List ℕ → List ℕ
after_blanks line = drop (length (take_while is_blank line)) line

abbrev pub second_word : List ℕ → List ℕ
second_word line = after_blanks (drop (length (first_word line)) line)

-- a name and an address, which is none if the text was not one
abbrev pub says_by : List ℕ → Option (List ℕ) → Row
says_by name None = bad
says_by name (Some ip) = if is_host_name name then says (lower name) ip else bad

abbrev pub gives_by : Option (List ℕ) → List ℕ → Row
gives_by None name = bad
gives_by (Some ip) name = if is_host_name name then gives ip (lower name) else bad

-- `=NAME IP`, or `IP NAME`
abbrev pub row_of_words : List ℕ → List ℕ → Row
row_of_words [] second = bad
row_of_words (b ∷ bs) second = if b == 61 then says_by bs (ipv4_in second) else gives_by (ipv4_in (b ∷ bs)) second

abbrev pub row_of_trimmed : List ℕ → Row
row_of_trimmed [] = ignored
row_of_trimmed (b ∷ bs) = if b == 35 then ignored else row_of_words (first_word (b ∷ bs)) (second_word (b ∷ bs))

abbrev pub row_of : Line → Row
row_of line = row_of_trimmed (trimmed line.bytes)

abbrev pub rows_of : List ℕ → List Row
rows_of text = map row_of (lines_of text)

abbrev pub is_bad : Row → Bool
is_bad bad = true
is_bad row = false

-- the number of the first bad line, if the first of these is line n
abbrev pub first_bad : ℕ → List Row → Option ℕ
first_bad n [] = None
first_bad n (row ∷ rows) = if is_bad row then Some n else first_bad (n + 1) rows

-- the name that the first line for an address gives it
abbrev pub name_in : Row → List ℕ → Option (List ℕ) → Option (List ℕ)
name_in (gives ip name) wanted later = if bytes_eq ip wanted then Some name else later
name_in row wanted later = later

abbrev pub first_name : List Row → List ℕ → Option (List ℕ)
first_name [] wanted = None
first_name (row ∷ rows) wanted = name_in row wanted (first_name rows wanted)

-- whether a line says that a name has an address
abbrev pub says_so : List ℕ → List ℕ → Row → Bool
says_so name wanted (says other ip) = bytes_eq other (lower name) && bytes_eq ip wanted
says_so name wanted row = false

abbrev pub is_confirmed : List Row → List ℕ → List ℕ → Bool
is_confirmed rows name wanted = list_any (says_so name wanted) rows
