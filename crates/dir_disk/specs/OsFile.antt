-- An opened file of a disk.
use Rattle.std.specs.Prelude.{◌≡◌, ℕ, List, Option}
use Rattle.std.specs.Option.{option_map}
use Rattle.dir_calls.specs.Directory.{Directory, content}
use Rattle.dir_disk.specs.OsDir.{kept_back}
use Rattle.dir_disk.specs.declared.os_file.OsFile.{OsFile}

-- the bytes of the file
abbrev pub os_bytes : {F : Type 0} {f : _} → (F → List ℕ) → OsFile F f → List ℕ
os_bytes bytes opened = bytes opened.file

-- what is found under a name is the file that stands there, if one does, whatever bytes are kept back
abbrev pub IsFoundAt : {F : Type 0} {f : _} → (F → List ℕ) → Directory → List ℕ → Option (OsFile F f) → Type 0
IsFoundAt bytes d name found = (pending : List ℕ) → option_map (os_bytes bytes) found ≡ content (kept_back pending d) name
