-- Fields of a line, which can't be misread there.
use Rattle.std.specs.Prelude.{ℕ, Bool, ◌||◌, ◌==◌, nat_lt, List, [], ◌++◌, map, length, take, codes, if◌then◌else◌}

-- a byte that would be misread in a line: one that is no visible ASCII character, `%`, or `:`
abbrev pub is_marked : ℕ → Bool
is_marked b = nat_lt b 33 || nat_lt 126 b || b == 37 || b == 58

abbrev pub mark : ℕ → ℕ
mark b = if is_marked b then 63 else b

-- the first hundred bytes of a field, marked, and three dots if it has a hundred or more
abbrev pub field_text : List ℕ → List ℕ
field_text bytes = map mark (take 100 bytes) ++ (if nat_lt (length bytes) 100 then [] else codes "...")
