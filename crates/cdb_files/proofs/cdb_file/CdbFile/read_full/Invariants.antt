use Rattle.std.proofs.Common.{length, ◌-◌, ◌≡◌, ◌≤◌, take, drop, IsTrue}
use Rattle.cdb_files.proofs.cdb_file.CdbFile.read_full.Given as goal

abbrev pub invariant-loop-done : goal.invariant-loop-done
invariant-loop-done g l =
    record {
      inside : l.done ≤ length l.buf;
      filled :
          IsTrue g.F.RulesFile.honest
          → take l.done l.buf ≡ take l.done (drop l.position (g.F.RulesFile.bytes l.self));
    }

abbrev pub decreases-loop-done : goal.decreases-loop-done
decreases-loop-done g l = length l.initial.buf - l.done
