use Rattle.std.proofs.Common.{rules, ◌≡◌, ◌-◌, ℕ, List, drop, sym, ◌∙◌, ap, subst, arith}
use Rattle.dir_calls.specs.Calls.{after, appends, patches}
use Rattle.dir_calls.specs.Directory.{Directory}
use Rattle.dir_disk.specs.DiskSteps.{Spoils}
use Rattle.dir_disk.proofs.Told.{on_err_give}
use Rattle.memory_dirs.specs.Folder.{directory_of}
use Rattle.test_site.proofs.MemWrites.{open_writable, over_and_on, patch_writes, spoiled_over}
use Rattle.test_site.proofs.mem_disk.write.Goals as goal

pub returns-then-bytes-room-clause-done : goal.returns-then-bytes-room-clause-done
returns-then-bytes-room-clause-done c =
    let d = directory_of c.args.folder.now in
    let does : directory_of c.patch.new.self ≡ after (patches c.args.position c.args.bytes.now) d = search rules in
    does ∙ patch_writes d c.args.number c.args.size c.args.position c.args.bytes.now (open_writable d c.args.number c.args.size c.requires.last c.requires.open)

pub returns-in_err-map_err-clause-failed : goal.returns-in_err-map_err-clause-failed
returns-in_err-map_err-clause-failed c =
    let d = directory_of c.args.folder.now in
    let over : List ℕ = c.split_at.result.0.now in
    let patched : directory_of c.patch-2.new.self ≡ after (patches c.args.position over) d = c.patch-2.ensures in
    let same : directory_of c.append.new.self ≡ directory_of c.patch-2.new.self = search rules in
    on_err_give c.from_residual.result (Spoils d (directory_of c.append.new.self))
    (subst (λ (x : Directory). Spoils d x) (sym (same ∙ patched))
    (spoiled_over d c.args.number c.args.size c.args.position over (open_writable d c.args.number c.args.size c.requires.last c.requires.open)))

pub returns-clause-done : goal.returns-clause-done
returns-clause-done c =
    let d = directory_of c.args.folder.now in
    let bytes = c.args.bytes.now in
    let position = c.args.position in
    let k : ℕ = c.args.size - position in
    let mid = directory_of c.patch-2.new.self in
    let patched : mid ≡ after (patches position c.split_at.result.0.now) d = c.patch-2.ensures in
    let appended : directory_of c.append.new.self ≡ after (appends c.split_at.result.1.now) mid = search rules in
    appended ∙ ap (λ (p : List ℕ). after (appends p) mid) c.split_at.ensures.back
    ∙ ap (after (appends (drop k bytes))) (patched ∙ ap (λ (p : List ℕ). after (patches position p) d) c.split_at.ensures.front)
    ∙ over_and_on d c.args.number c.args.size position k bytes (open_writable d c.args.number c.args.size c.requires.last c.requires.open)
    (omega (arith, c.if-bytes-room.false)) (omega (arith, c.requires.inside))
