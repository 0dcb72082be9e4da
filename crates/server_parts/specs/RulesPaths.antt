-- The path of a rules file, by the words of a server.
use Rattle.std.specs.Prelude.{◌≡◌, ℕ, List, Option, None, Some}
use Rattle.rules_tools.specs.Paths.{IsSplit, folder_path}

-- a name is the last part of a path
abbrev pub IsNameIn : List ℕ → Option (List ℕ) → Type 0
IsNameIn path None = ⊥
IsNameIn path (Some name) = (folder : List ℕ) × IsSplit path folder name

-- the path of a folder is that of the folder in which another path leads to a file
pub record IsFolderOfPath (path folder : List ℕ) : Type 0 where
  pub before : List ℕ
  pub name : List ℕ
  pub split : IsSplit path before name
  pub same : folder ≡ folder_path before
