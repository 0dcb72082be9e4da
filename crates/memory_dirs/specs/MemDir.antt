-- What stands in a directory in memory, and what stops may have left of it.
use Rattle.std.specs.Prelude.{ℕ, length, map}
use Rattle.dir_calls.specs.Directory.{Directory}
use Rattle.memory_dirs.specs.Folder.{directory_of}
use Rattle.memory_dirs.specs.Past.{LeftSince, past_call}
use Rattle.memory_dirs.specs.declared.mem_dir.MemDir.{MemDir}

abbrev pub mem_state : MemDir → Directory
mem_state m = directory_of m.folder

-- the moment is the number of the calls that did something
abbrev pub mem_moment : MemDir → ℕ
mem_moment m = length (map past_call m.past.items)

-- what a stop since a moment may have left
abbrev pub mem_left_since : MemDir → ℕ → Directory → Type 0
mem_left_since m = LeftSince (map past_call m.past.items) (directory_of m.folder)
