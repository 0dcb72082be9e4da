use Rattle.std.proofs.lemmas.Result.{err_from_is_err_and}
use Rattle.dir_calls.specs.Calls.{lasting}
use Rattle.memory_dirs.specs.Folder.{directory_of}
use Rattle.memory_dirs.proofs.InMemory.{unchanged, scratch_set}
use Rattle.memory_dirs.proofs.folder.Folder.last.Goals as goal

pub returns-in_err-close-clause-err : goal.returns-in_err-close-clause-err
returns-in_err-close-clause-err c =
    let p = err_from_is_err_and c.from_residual.result c.from_residual.ensures.1 in
    rw p.1 (unchanged (directory_of c.args.self.now).names c.args.self.now.files.items _ c.args.number c.index_mut-file.result.now _ c.index_mut-file.ensures.value c.in_err-close.ensures.err)

pub returns-clause-ok : goal.returns-clause-ok
returns-clause-ok c = scratch_set lasting (directory_of c.args.self.now).names c.args.self.now.files.items c.args.self.now.scratch c.args.number c.index_mut-file.result.now _ c.requires c.index_mut-file.ensures.value c.in_ok-close.ensures.ok
