use Rattle.std.proofs.Common.{◌≤◌, ◌-◌, IsTrue}
use Rattle.cdb_files.specs.Parts.{value_of}
use Rattle.cdb_files.proofs.PieceLemmas.{GoesOn}
use Rattle.cdb_files.proofs.cdb_file.CdbFile.check_code.Given as goal

abbrev pub invariant-loop-done : goal.invariant-loop-done
invariant-loop-done g l = record {
  inside : l.done ≤ l.len;
  on : IsTrue g.F.RulesFile.honest → GoesOn (value_of (g.F.RulesFile.bytes l.self) l.stored) l.done l.stage;
}

abbrev pub decreases-loop-done : goal.decreases-loop-done
decreases-loop-done g l = l.len - l.done
