use Rattle.std.proofs.Common.{sym, subst}
use Rattle.dir_calls.specs.Directory.{Directory}
use Rattle.dir_calls.specs.Images.{IsImage}
use Rattle.memory_dirs.specs.MemDir.{mem_state}
use Rattle.dir_calls.proofs.Stops.{stopped_is}
use Rattle.memory_dirs.proofs.mem_dir.MemDir.crash.Goals as goal

pub returns-clause-image : goal.returns-clause-image
returns-clause-image c =
    let d = mem_state c.args.self.now in
    subst (λ (left : Directory). IsImage d left) (sym c.in_ok-stopped_folder.ensures) (stopped_is c.args.choice d)
