use Rattle.std.proofs.Common.{ℕ, List, ◌+◌, drop, IsTrue, arith, sym, ◌∙◌}
use Rattle.std.proofs.lemmas.Result.{err_from_is_err_and}
use Rattle.cdb_files.specs.Format.{hash_of}
use Rattle.cdb_files.specs.Slots.{probe}
use Rattle.cdb_files.specs.Parts.{found_in_slots, slots_from}
use Rattle.cdb_files.proofs.FaultLemmas.{IsFault-at, IsFault-read}
use Rattle.cdb_files.proofs.ProbeLemmas.{IsNext, found-empty, found-other_hash, found-other_key, found-record, found_in_probe-drop, found_in_probe-drop_all}
use Rattle.cdb_files.proofs.cdb_file.CdbFile.find_in_table.Given as given
use Rattle.cdb_files.proofs.cdb_file.CdbFile.find_in_table.Goals as goal
use Rattle.cdb_files.proofs.cdb_file.CdbFile.find_in_table.Goals.{In_ok-slot_hash}

-- the slots in the order of the probe
abbrev probed : (g : given.Over) (c : In_ok-slot_hash g) → List (ℕ × ℕ)
probed g c =
    probe (hash_of c.args.key.now) (slots_from (g.F.RulesFile.bytes c.args.self.now) (c.args.table, c.args.slots))

-- the slot that was read decides, or those after it
next : (g : given.Over) (c : In_ok-slot_hash g) → IsTrue g.F.RulesFile.honest → IsNext (g.F.RulesFile.bytes c.args.self.now) c.args.key.now (c.in_ok-slot_hash.slot_hash, c.in_ok-slot_hash.position) (drop (c.loop-passed.passed + 1) (probed g c)) (found_in_slots (g.F.RulesFile.bytes c.args.self.now) c.args.key.now (c.args.table, c.args.slots))
next g c honest =
    record {
      is =
          sym (c.loop-passed.invariant.left honest)
          ∙ found_in_probe-drop (hash_of c.args.key.now) (g.F.RulesFile.bytes c.args.self.now) c.args.table c.args.slots c.requires.some_slots c.args.key.now c.loop-passed.passed _ _ (omega arith) (cc) (c.in_ok-slot_hash.ensures.numbers honest);
    }

pub returns-in_err-slot_hash-clause-fault : goal.returns-in_err-slot_hash-clause-fault
returns-in_err-slot_hash-clause-fault g c =
    let found = found_in_slots (g.F.RulesFile.bytes c.args.self.now) c.args.key.now (c.args.table, c.args.slots) in
    let returned = err_from_is_err_and c.from_residual.result c.from_residual.ensures.1 in
    rw (returned.1, returned.2) (IsFault-read g.F.RulesFile.honest g.F.RulesFile.sound found c.in_err-slot_hash.field-0.0 c.in_err-slot_hash.ensures.fault)

pub returns-then-position-eq0-clause-found : goal.returns-then-position-eq0-clause-found
returns-then-position-eq0-clause-found g c = λ honest.
    found-empty (next g (goal.at.returns-then-position-eq0-clause-found g c).In_ok-slot_hash honest) c.if-position-eq0.true

pub loop-passed-preserved-then-slot_hash-key_hash :
    goal.loop-passed-preserved-then-slot_hash-key_hash
loop-passed-preserved-then-slot_hash-key_hash g c = record {
  left = λ honest.
      found-other_hash (next g (goal.at.loop-passed-preserved-then-slot_hash-key_hash g c).In_ok-slot_hash honest) c.if-position-eq0.false (λ same. c.if-slot_hash-key_hash.true (same ∙ sym c.hash-key_hash.ensures));
  slots = c.in_ok-slot_hash.ensures.read;
  records = c.loop-passed.invariant.records;
}

pub returns-in_err-stored-clause-fault : goal.returns-in_err-stored-clause-fault
returns-in_err-stored-clause-fault g c =
    let p = err_from_is_err_and c.from_residual-in_err-stored.result c.from_residual-in_err-stored.ensures.1 in
    rw (p.1, p.2) (IsFault-at _ _ _ _ _ c.in_err-stored.ensures.fault (λ honest broken.
    found-record (next g (goal.at.returns-in_err-stored-clause-fault g c).In_ok-slot_hash honest) _ c.if-position-eq0.false (c.if-slot_hash-key_hash.false ∙ c.hash-key_hash.ensures) (λ absent. cc (absent)) broken))

pub returns-in-Some-clause-found : goal.returns-in-Some-clause-found
returns-in-Some-clause-found g c = λ honest.
    let has = rw c.in-Some.is at (c.in_ok-stored.ensures.found honest) in
    (found-record (next g (goal.at.returns-in-Some-clause-found g c).In_ok-slot_hash honest) _ c.if-position-eq0.false (c.if-slot_hash-key_hash.false ∙ c.hash-key_hash.ensures) (λ absent. cc (absent)) has.0, has.1)

pub loop-passed-preserved : goal.loop-passed-preserved
loop-passed-preserved g c = record {
  left = λ honest.
      let absent = rw c.in_default.is at (c.in_ok-stored.ensures.found honest) in
      found-other_key (next g (goal.at.loop-passed-preserved g c).In_ok-slot_hash honest) c.if-position-eq0.false absent;
  slots = c.in_ok-slot_hash.ensures.read;
  records = c.in_ok-stored.ensures.read;
}

pub returns-clause-found : goal.returns-clause-found
returns-clause-found g c = λ honest.
    sym (c.loop-passed.invariant.left honest)
    ∙ found_in_probe-drop_all (hash_of c.args.key.now) (g.F.RulesFile.bytes c.args.self.now) c.args.table c.args.slots c.requires.some_slots c.args.key.now c.loop-passed.passed (omega arith)
