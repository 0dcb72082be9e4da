use Rattle.std.proofs.Common.{subst}
use Rattle.cdb_files.specs.Parts.{Tells}
use Rattle.cdb_files.specs.Reading.{reading}
use Rattle.cdb_files.proofs.FaultLemmas.{FailsOf-same}
use Rattle.cdb_files.proofs.ProbeLemmas.{found_in_slots-reading}
use Rattle.cdb_files.proofs.cdb_file.CdbFile.find_record.Goals as goal

-- what is found among the slots is what is found in the file
pub returns-clause-found : goal.returns-clause-found
returns-clause-found g c = λ honest.
    subst (λ found. Tells (g.F.RulesFile.bytes c.args.self.now) found c.find_in_table.result)
    (found_in_slots-reading (g.F.RulesFile.bytes c.args.self.now) c.args.key.now _ _ (c.if-not-holds.ensures honest) (rw (c.from.ensures, c.hash.ensures) at (c.in_ok-table.ensures.numbers honest)) c.if-slots-eq0.false (rw (c.from-2.ensures, c.from-3.ensures) at (c.if-not-holds-2.ensures honest)))
    (c.find_in_table.ensures.found honest)

pub returns-clause-fault : goal.returns-clause-fault
returns-clause-fault g c =
    FailsOf-same g.F.RulesFile.honest g.F.RulesFile.sound _ (reading (g.F.RulesFile.bytes c.args.self.now) c.args.key.now) c.find_in_table.result (λ honest.
    found_in_slots-reading (g.F.RulesFile.bytes c.args.self.now) c.args.key.now _ _ (c.if-not-holds.ensures honest) (rw (c.from.ensures, c.hash.ensures) at (c.in_ok-table.ensures.numbers honest)) c.if-slots-eq0.false (rw (c.from-2.ensures, c.from-3.ensures) at (c.if-not-holds-2.ensures honest)))
    c.find_in_table.ensures.fault
