use Rattle.std.proofs.Common.{◌≡◌, length}
use Rattle.dir_disk.proofs.system_disk.SystemFileDiskFile.read_at.Given as goal

abbrev pub invariant-loop : goal.invariant-loop
invariant-loop l = length l.buf ≡ length l.initial.buf
