-- A disk in memory.
use Rattle.std.specs.Prelude.{ℕ, List, [], length, map, unwrap_or}
use Rattle.dir_calls.specs.Directory.{Directory}
use Rattle.memory_dirs.specs.Folder.{directory_of}
use Rattle.memory_dirs.specs.Past.{LeftSince, past_call}
use Rattle.test_site.specs.declared.mem_disk.MemDisk.{MemDisk}
use Rattle.test_site.specs.declared.mem_disk.MemHandle.{MemHandle}

-- what stands on it
abbrev pub mem_disk_state : MemDisk → Directory
mem_disk_state disk = directory_of disk.folder

-- the moment is the number of the calls that did something
abbrev pub mem_disk_moment : MemDisk → ℕ
mem_disk_moment disk = length (map past_call disk.past.items)

-- what a stop since a moment may have left
abbrev pub mem_disk_left_since : MemDisk → ℕ → Directory → Type 0
mem_disk_left_since disk = LeftSince (map past_call disk.past.items) (directory_of disk.folder)

-- the bytes of an opened file: those that it had when it was opened to be read
abbrev pub handle_bytes : MemHandle → List ℕ
handle_bytes handle = unwrap_or handle.content []
