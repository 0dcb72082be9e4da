-- Pairs of a name and a number. Of two pairs with one name the first counts.
use Rattle.std.specs.Prelude.{◌||◌, ℕ, List, [], ◌∷◌, if◌then◌else◌}
use Rattle.dir_calls.specs.NameTable.{same_name}

abbrev pub Pairs : Type 0
Pairs = List (List ℕ × ℕ)

-- the pairs with other names than these two
abbrev pub others : List ℕ → List ℕ → Pairs → Pairs
others from to [] = []
others from to (e ∷ es) = if same_name from e.0 || same_name to e.0 then others from to es else e ∷ others from to es
