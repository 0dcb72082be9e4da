-- Where a program is looked for.
use Rattle.std.specs.Prelude.{ℕ, List, [], ◌∷◌, ◌++◌}

-- the path of a name in a folder; the empty folder is the working directory
abbrev pub path_in : (folder name : List ℕ) → List ℕ
path_in [] name = name
path_in (b ∷ bs) name = (b ∷ bs) ++ 47 ∷ name
