use Rattle.cdb_files.proofs.FaultLemmas.{CodeFails-code}
use Rattle.cdb_files.proofs.cdb_file.CdbFile.decode.Goals as goal

pub returns-clause-refused : goal.returns-clause-refused
returns-clause-refused g c =
    rw c.of_code.ensures (CodeFails-code g.F.RulesFile.honest g.F.RulesFile.sound _ c.in_ok-code.code.items c.in-Err.fault (λ honest. rw c.value_position.ensures at (c.in_ok-code.ensures.bytes honest)) (rw c.deref.ensures.value at c.in-Err.ensures.refused))
