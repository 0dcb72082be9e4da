use Rattle.std.proofs.Common.{◌≡◌, take}
use Rattle.std.specs.Prelude.{map}
use Rattle.memory_dirs.specs.Stored.{file_of}
use Rattle.dir_calls.specs.Stop.{stopped_file}
use Rattle.memory_dirs.proofs.crash.left_files.Given as goal

abbrev pub invariant-loop-file : goal.invariant-loop-file
invariant-loop-file l = map file_of l.left.items ≡ map (stopped_file l.choice) (map file_of (take l.file-index l.files))
