use Rattle.std.proofs.Common.{false, ◌++◌, sym, ◌∙◌, ap}
use Rattle.std.proofs.lemmas.Result.{err_from_is_err_and}
use Rattle.dir_calls.specs.Calls.{longer}
use Rattle.memory_dirs.specs.Folder.{directory_of}
use Rattle.memory_dirs.specs.Stored.{file_of}
use Rattle.memory_dirs.proofs.InMemory.{unchanged, scratch_set, rewritten-synced}
use Rattle.memory_dirs.proofs.folder.Folder.append.Goals as goal

pub returns-in_err-extend_from_slice-clause-err : goal.returns-in_err-extend_from_slice-clause-err
returns-in_err-extend_from_slice-clause-err c =
    let p = err_from_is_err_and c.from_residual.result c.from_residual.ensures.1 in
    rw p.1 (unchanged (directory_of c.args.self.now).names c.args.self.now.files.items _ c.args.number c.index_mut.result.now _ c.index_mut.ensures.value
    ((λ i. record { bytes = c.in_err-extend_from_slice.ensures.items i; synced = false }) ∙ sym (ap file_of c.in-Open.is)))

pub returns-in_ok-extend_from_slice-clause-ok : goal.returns-in_ok-extend_from_slice-clause-ok
returns-in_ok-extend_from_slice-clause-ok c =
    scratch_set (longer c.args.piece.now) (directory_of c.args.self.now).names c.args.self.now.files.items c.args.self.now.scratch c.args.number c.index_mut.result.now _ c.requires c.index_mut.ensures.value
    ((λ i. record { bytes = c.in_ok-extend_from_slice.ensures.items i; synced = false }) ∙ sym (ap (λ file. longer c.args.piece.now (file_of file)) c.in-Open.is))

pub returns-in_default-clause-ok : goal.returns-in_default-clause-ok
returns-in_default-clause-ok c =
    let file = c.index_mut.result.now in
    scratch_set (longer c.args.piece.now) (directory_of c.args.self.now).names c.args.self.now.files.items c.args.self.now.scratch c.args.number file file c.requires c.index_mut.ensures.value
    (sym (rewritten-synced (file_of file) ((file_of file).bytes ++ c.args.piece.now) (ap (λ stored. (file_of stored).synced) c.in_default.is)))
