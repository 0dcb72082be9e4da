-- Paths, and what is wrong with those of `tcprules`.
use Rattle.std.specs.Prelude.{◌≡◌, ◌⊎◌, ◌==◌, ◌||◌, ℕ, Bool, List, [], ◌∷◌, ◌++◌, Option, Some, None, is_some, codes, bytes_eq, if◌then◌else◌, Result, Ok, Err}
use Rattle.std.specs.Str.{NoCharPasses}
use Rattle.dir_calls.specs.Names.{name_fault}
use Rattle.rules_install.specs.NamePair.{NamePair}
use Rattle.rules_tools.specs.declared.tcprules.TcprulesFault.{TcprulesFault}
use Rattle.rules_tools.specs.declared.tcprules.TcprulesFault.TheVariants.{BadName, OtherFolder, SameName, OutOfMemory}

-- a path's folder stands before its last slash, and its last part after that; without a slash it is all last part, of the folder `.`
pub record IsSplit (path folder name : List ℕ) : Type 0 where
  pub last : NoCharPasses (λ c. c == 47) name
  pub parts : ((path ≡ name) × (folder ≡ codes ".")) ⊎ (path ≡ folder ++ 47 ∷ name)

-- the path by which the system knows a folder: of what stands before a first slash it is the root folder
abbrev pub folder_path : List ℕ → List ℕ
folder_path [] = codes "/"
folder_path (b ∷ bs) = b ∷ bs

-- what is wrong with two names, whose folders are one or not, the first in this order
abbrev pub paths_fault : (one_folder : Bool) → NamePair → Option TcprulesFault
paths_fault one_folder names =
    if is_some (name_fault names.cdb) || is_some (name_fault names.tmp) then Some BadName
    else (if one_folder then (if bytes_eq names.cdb names.tmp then Some SameName else None) else Some OtherFolder)

-- two names in one folder, or what is wrong with them; want of memory comes only where nothing is
abbrev pub AreNames : (one_folder : Bool) → NamePair → Result NamePair TcprulesFault → Type 0
AreNames one_folder names (Ok made) = (paths_fault one_folder names ≡ None) × (made ≡ names)
AreNames one_folder names (Err OutOfMemory) = paths_fault one_folder names ≡ None
AreNames one_folder names (Err fault) = paths_fault one_folder names ≡ Some fault
