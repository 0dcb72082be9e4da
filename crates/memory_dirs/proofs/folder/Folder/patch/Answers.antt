use Rattle.std.proofs.Common.{◌≤◌, ◌+◌, false, length, sym, ◌∙◌, ap, arith}
use Rattle.dir_calls.specs.Calls.{patched}
use Rattle.memory_dirs.specs.Folder.{directory_of}
use Rattle.memory_dirs.specs.Stored.{file_of}
use Rattle.memory_dirs.proofs.InMemory.{scratch_set, rewritten-synced, scratch_room, patched_items}
use Rattle.memory_dirs.proofs.folder.Folder.patch.Goals as goal

pub overflow_add-position : goal.overflow_add-position
overflow_add-position c =
    let inside : c.args.position + length c.args.bytes.now ≤ length c.in-Open.old.items =
    scratch_room c.args.self.now.files.items c.args.self.now.scratch c.args.number c.args.position (length c.args.bytes.now) c.index_mut.result.now c.in-Open.old
    c.requires.scratch (c.args.self.now.in_range c.args.number c.requires.scratch) c.index_mut.ensures.value c.in-Open.is c.requires.inside in
    omega (arith, inside, c.in-Open.old.ok.0, c.in-Open.old.ok.1, c.in-Open.old.small)

pub slice_bounds-copy_from_slice-end : goal.slice_bounds-copy_from_slice-end
slice_bounds-copy_from_slice-end c =
    let inside : c.args.position + length c.args.bytes.now ≤ length c.in-Open.old.items =
    scratch_room c.args.self.now.files.items c.args.self.now.scratch c.args.number c.args.position (length c.args.bytes.now) c.index_mut.result.now c.in-Open.old
    c.requires.scratch (c.args.self.now.in_range c.args.number c.requires.scratch) c.index_mut.ensures.value c.in-Open.is c.requires.inside in
    omega (arith, inside, c.in-Open.old.ok.0, c.deref_mut.ensures.len, ap length c.deref_mut.ensures.value)

pub returns-in-Open : goal.returns-in-Open
returns-in-Open c =
    let inside : c.args.position + length c.args.bytes.now ≤ length c.in-Open.old.items =
    scratch_room c.args.self.now.files.items c.args.self.now.scratch c.args.number c.args.position (length c.args.bytes.now) c.index_mut.result.now c.in-Open.old
    c.requires.scratch (c.args.self.now.in_range c.args.number c.requires.scratch) c.index_mut.ensures.value c.in-Open.is c.requires.inside in
    scratch_set (patched c.args.position c.args.bytes.now) (directory_of c.args.self.now).names c.args.self.now.files.items c.args.self.now.scratch c.args.number c.index_mut.result.now _ c.requires.scratch c.index_mut.ensures.value
    ((λ i. record { bytes = patched_items c.in-Open.old c.args.position c.args.bytes.now inside c.deref_mut.result.now c.copy_from_slice.new.self c.deref_mut.ensures.value c.copy_from_slice.ensures.after i; synced = false })
    ∙ sym (ap (λ file. patched c.args.position c.args.bytes.now (file_of file)) c.in-Open.is))

pub returns-in_default : goal.returns-in_default
returns-in_default c =
    let file = c.index_mut.result.now in
    scratch_set (patched c.args.position c.args.bytes.now) (directory_of c.args.self.now).names c.args.self.now.files.items c.args.self.now.scratch c.args.number file file c.requires.scratch c.index_mut.ensures.value
    (sym (rewritten-synced (file_of file) _ (ap (λ stored. (file_of stored).synced) c.in_default.is)))
