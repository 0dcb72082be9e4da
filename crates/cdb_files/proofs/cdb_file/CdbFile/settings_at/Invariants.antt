use Rattle.std.proofs.Common.{◌≤◌, ◌-◌, IsTrue}
use Rattle.cdb_files.specs.Parts.{bytes_at}
use Rattle.cdb_files.proofs.CodePieces.{AreAll}
use Rattle.cdb_files.proofs.cdb_file.CdbFile.settings_at.Given as goal

abbrev pub invariant-loop-done : goal.invariant-loop-done
invariant-loop-done g l = record {
  inside : l.done ≤ l.len;
  on : IsTrue g.F.RulesFile.honest → AreAll (bytes_at (g.F.RulesFile.bytes l.self) l.position l.len) l.settings l.done;
}

abbrev pub decreases-loop-done : goal.decreases-loop-done
decreases-loop-done g l = l.len - l.done
