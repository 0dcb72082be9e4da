use Rattle.memory_dirs.specs.Folder.{directory_of}
use Rattle.memory_dirs.proofs.History.{step_more}
use Rattle.test_site.proofs.mem_disk.MemDiskDisk.sync.Goals as goal

pub returns-clause-time : goal.returns-clause-time
returns-clause-time c = λ honest. step_more c.args.self.now.past.items c.and-past.result.items c.args.self.now.folder (directory_of c.last.new.self) c.and-past.ensures
