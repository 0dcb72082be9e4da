use Rattle.std.proofs.Common.{◌≡◌, ◌+◌, ◌<◌, ◌^◌, ℕ, List, [], length, sym, ◌∙◌, subst, ap, arith}
use Rattle.dir_calls.specs.Directory.{Directory}
use Rattle.dir_disk.specs.DiskSteps.{Spoils, after_write}
use Rattle.dir_disk.specs.OsDir.{IsWritable, kept_back}
use Rattle.dir_disk.proofs.DiskWrites.{spoils_write}
use Rattle.dir_disk.proofs.KeptWrites.{kept_written, writable_end, writable_unsynced}
use Rattle.dir_disk.proofs.scratch.write_kept.Goals as goal

pub returns-in-Ok-clause-kept : goal.returns-in-Ok-clause-kept
returns-in-Ok-clause-kept g c = λ honest.
    let d = g.D.Disk.state c.args.disk.now in
    let bytes = c.args.pending.now.items in
    let done : g.D.Disk.state c.write_all_at.new.self ≡ after_write c.args.written bytes d = subst (λ (l : List ℕ). g.D.Disk.state c.write_all_at.new.self ≡ after_write c.args.written l d) c.as_slice.ensures.value (c.in-Ok.ensures.done honest) in
    ap (kept_back []) done ∙ kept_written d (g.D.Disk.number c.args.file) c.args.written bytes (c.requires.writable honest)

pub returns-in-Ok-clause-writable : goal.returns-in-Ok-clause-writable
returns-in-Ok-clause-writable g c = λ honest.
    let d = g.D.Disk.state c.args.disk.now in
    let bytes = c.args.pending.now.items in
    let number = g.D.Disk.number c.args.file in
    let done : g.D.Disk.state c.write_all_at.new.self ≡ after_write c.args.written bytes d = subst (λ (l : List ℕ). g.D.Disk.state c.write_all_at.new.self ≡ after_write c.args.written l d) c.as_slice.ensures.value (c.in-Ok.ensures.done honest) in
    let fits : c.args.written + length bytes < 2 ^ 64 = omega (arith, ap (λ (l : List ℕ). length l) c.as_slice.ensures.value, c.in-Ok.ensures.fits honest) in
    let long : c.saturating_add-end.result ≡ c.args.written + length bytes = grind (arith, fits, c.saturating_add-end.ensures, c.len.ensures) in
    subst (λ (x : Directory). IsWritable x number c.saturating_add-end.result) (sym done) (writable_end d number c.args.written c.saturating_add-end.result bytes (c.requires.writable honest) long)

pub returns-in-Ok-clause-spares : goal.returns-in-Ok-clause-spares
returns-in-Ok-clause-spares g c = λ honest.
    let d = g.D.Disk.state c.args.disk.now in
    subst (λ (x : Directory). Spoils d x) (sym (c.in-Ok.ensures.done honest)) (spoils_write c.args.written c.as_slice.result.now d (writable_unsynced d (g.D.Disk.number c.args.file) c.args.written (c.requires.writable honest)))
