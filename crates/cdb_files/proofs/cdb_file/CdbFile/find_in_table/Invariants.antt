use Rattle.std.proofs.Common.{◌≡◌, drop, IsTrue}
use Rattle.cdb_files.specs.Format.{hash_of}
use Rattle.cdb_files.specs.Slots.{probe}
use Rattle.cdb_files.specs.Parts.{IsWindowOf, found_in_probe, found_in_slots, slots_from}
use Rattle.cdb_files.proofs.cdb_file.CdbFile.find_in_table.Given as goal

abbrev pub invariant-loop-passed : goal.invariant-loop-passed
invariant-loop-passed g l = record {
  left :
      IsTrue g.F.RulesFile.honest
      → found_in_probe (g.F.RulesFile.bytes l.self) l.key (drop l.passed (probe (hash_of l.key) (slots_from (g.F.RulesFile.bytes l.self) (l.table, l.slots))))
      ≡ found_in_slots (g.F.RulesFile.bytes l.self) l.key (l.table, l.slots);
  slots : IsTrue g.F.RulesFile.honest → IsWindowOf (g.F.RulesFile.bytes l.self) l.slot_window;
  records : IsTrue g.F.RulesFile.honest → IsWindowOf (g.F.RulesFile.bytes l.self) l.record_window;
}
