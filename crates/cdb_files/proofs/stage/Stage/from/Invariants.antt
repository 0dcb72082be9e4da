use Rattle.std.proofs.Common.{◌≡◌, drop}
use Rattle.cdb_files.specs.Stages.{stage_from}
use Rattle.cdb_files.proofs.stage.Stage.from.Given as goal

abbrev pub invariant-loop-byte : goal.invariant-loop-byte
invariant-loop-byte l = stage_from l.stage (drop l.byte-index l.bytes) ≡ stage_from l.fn.self l.bytes
