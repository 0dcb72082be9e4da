use Rattle.std.proofs.Common.{arith}
use Rattle.std.proofs.lemmas.List.{places}
use Rattle.cdb_files.proofs.cdb_file.CdbFile.read_full.Goals as goal
use Rattle.cdb_files.proofs.ReadLemmas.{take-put_mid_given}

pub loop-done-preserved : goal.loop-done-preserved
loop-done-preserved g c =
    record {
      inside = grind (arith, places, c.in-Ok.ensures.room);
      filled = λ honest. take-put_mid_given _ _ _ _ _ _ _ _ c.loop-done.invariant.inside c.in-Ok.ensures.same_length (c.loop-done.invariant.filled honest) (rw c.self.view_is at (c.in-Ok.ensures.gives honest));
    }
