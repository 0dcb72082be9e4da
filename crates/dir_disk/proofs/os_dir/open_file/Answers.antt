use Rattle.std.proofs.Common.{◌≡◌, List, ℕ, IsTrue, sym, ◌∙◌, subst, ap}
use Rattle.std.specs.Prelude.{◌≢◌, Some, slice_get}
use Rattle.std.specs.Option.{option_map}
use Rattle.dir_calls.specs.Directory.{Directory}
use Rattle.dir_disk.proofs.OsCalls.{content_apart, length_of}
use Rattle.dir_disk.proofs.os_dir.open_file.Given.{Over}
use Rattle.dir_disk.proofs.os_dir.open_file.Goals as goal

-- the scratch file of the disk before it is another
apart : (g : Over) (c : goal.Else-branch g) → IsTrue g.D.Disk.honest → (g.D.Disk.state c.args.disk.now).scratch ≢ Some (g.D.Disk.number c.in-Ok.file)
apart g c honest = subst (λ (d : Directory). d.scratch ≢ Some (g.D.Disk.number c.in-Ok.file)) (c.open.ensures.same honest) (c.in_ok-is_scratch.ensures honest c.if-branch.false)

read : (g : Over) (c : goal.Else-branch g) → IsTrue g.D.Disk.honest
    → option_map (λ file. file.bytes) (slice_get (g.D.Disk.state c.args.disk.now).files (g.D.Disk.number c.in-Ok.file)) ≡ Some (g.D.File.DiskFile.bytes c.in-Ok.file)
read g c honest = c.in-Ok.ensures.read honest (c.in_ok-found.ensures.kind honest) (apart g c honest)

pub new-requires : goal.new-requires
new-requires g c = λ files_honest.
    let honest : IsTrue g.D.Disk.honest = subst (λ known. IsTrue known) g.met.D.Disk.honest_files files_honest in
    length_of (slice_get (g.D.Disk.state c.open.new.self).files (g.D.Disk.number c.in-Ok.file)) (g.D.File.DiskFile.bytes c.in-Ok.file) c.in_ok-found.found.len (c.in_ok-found.ensures.length honest)
    (subst (λ (d : Directory). option_map (λ file. file.bytes) (slice_get d.files (g.D.Disk.number c.in-Ok.file)) ≡ Some (g.D.File.DiskFile.bytes c.in-Ok.file)) (sym (c.open.ensures.same honest)) (read g c honest))

pub returns-clause-found : goal.returns-clause-found
returns-clause-found g c = λ honest pending.
    ap (λ (b : List ℕ). Some b) c.new.ensures
    ∙ sym (content_apart (g.D.Disk.state c.args.disk.now) c.args.name.now (g.D.Disk.number c.in-Ok.file) pending (g.D.File.DiskFile.bytes c.in-Ok.file)
    (c.in-Ok.ensures.opened honest) (subst (λ (d : Directory). d.scratch ≢ Some (g.D.Disk.number c.in-Ok.file)) (c.open.ensures.same honest) (c.in_ok-is_scratch.ensures honest c.if-branch.false))
    (c.in-Ok.ensures.read honest (c.in_ok-found.ensures.kind honest) (subst (λ (d : Directory). d.scratch ≢ Some (g.D.Disk.number c.in-Ok.file)) (c.open.ensures.same honest) (c.in_ok-is_scratch.ensures honest c.if-branch.false))))
