-- What a directory over a disk is made of.
use Rattle.std.specs.Prelude.{ℕ, List, Option, string_bytes}
use Rattle.std.specs.Option.{option_map}
use Rattle.dir_calls.specs.Directory.{Directory}
use Rattle.dir_calls.specs.Moments.{ImagesSince}
use Rattle.dir_disk.specs.OsDir.{kept_back}
use Rattle.dir_disk.specs.declared.os_dir.DiskDir.{DiskDir}
use Rattle.dir_disk.specs.declared.system_disk.SystemDisk.{SystemDisk}

-- its disk
abbrev pub os_disk : {D F : Type 0} {d : _} {f : _} → DiskDir D F d f → D
os_disk dir = dir.disk

-- the path of a folder of the system
abbrev pub system_folder : {R W : Type 0} → SystemDisk R W → List ℕ
system_folder disk = string_bytes disk.folder

-- the bytes that are kept back
abbrev pub os_pending : {D F : Type 0} {d : _} {f : _} → DiskDir D F d f → List ℕ
os_pending dir = dir.pending.items

-- what stands in it: what stands on the disk, with the bytes that are kept back
abbrev pub os_state : {D F : Type 0} {d : _} {f : _} → (D → Directory) → DiskDir D F d f → Directory
os_state state dir = kept_back (os_pending dir) (state (os_disk dir))

-- how often its device has failed
abbrev pub os_failed : {D F : Type 0} {d : _} {f : _} → DiskDir D F d f → ℕ
os_failed dir = dir.failures

-- the number of the file that was made last, once it is closed
abbrev pub os_made : {D F : Type 0} {d : _} {f : _} → (F → ℕ) → DiskDir D F d f → Option ℕ
os_made number dir = option_map number dir.made

-- its moment, and what a stop since a moment may have left
abbrev pub os_moment : {D F : Type 0} {d : _} {f : _} → (D → ℕ) → DiskDir D F d f → ℕ
os_moment moment dir = moment (os_disk dir)

abbrev pub os_left_since : {D F : Type 0} {d : _} {f : _} → (D → ImagesSince) → DiskDir D F d f → ImagesSince
os_left_since left_since dir = left_since (os_disk dir)
