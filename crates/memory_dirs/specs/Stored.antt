-- A file of a directory in memory.
use Rattle.std.specs.Prelude.{ℕ, true, false, length, Option, Some, None, if◌then◌else◌}
use Rattle.std.specs.Arc.{arc_value}
use Rattle.dir_calls.specs.Directory.{FileState}
use Rattle.memory_dirs.specs.declared.stored.Stored.{Stored}
use Rattle.memory_dirs.specs.declared.stored.Stored.TheVariants.{Open, Synced}

abbrev pub file_of : Stored → FileState
file_of (Open bytes) = record { bytes = bytes.items; synced = false }
file_of (Synced bytes) = record { bytes = (arc_value bytes).items; synced = true }

-- how many bytes a file has, if it is not synced
abbrev pub open_length : Option FileState → Option ℕ
open_length None = None
open_length (Some file) = if file.synced then None else Some (length file.bytes)
