use Rattle.std.proofs.Common.{rules, ◌≡◌, inl, inr, ⊎_elim, sym, ◌∙◌, ap}
use Rattle.std.specs.Prelude.{None}
use Rattle.std.specs.Option.{option_map}
use Rattle.std.specs.IoError.{error_kind}
use Rattle.std.specs.declared.io.ErrorKind.TheVariants.{NotFound}
use Rattle.dir_calls.specs.Directory.{number_of}
use Rattle.dir_calls.specs.Calls.{renames, after, longer}
use Rattle.dir_calls.specs.Outcomes.{Fails, LeftBy}
use Rattle.dir_calls.specs.Moments.{Includes}
use Rattle.dir_disk.specs.OsDir.{Holds, kept_back}
use Rattle.dir_disk.specs.DiskSteps.{AllOrNone, MovesNoOther}
use Rattle.dir_disk.specs.KeptImages.{kept_image, disk_image}
use Rattle.dir_disk.proofs.OsCalls.{fails_renamed, kept_renamed, number_with}
use Rattle.dir_disk.proofs.Told.{on_ok_then, on_err_then, if_err_then, told_ok, told_err, does_move, absent_told, no_memory_told, among_renames, call_elapses, call_includes}
use Rattle.dir_disk.proofs.os_dir.DiskDirDir.rename.Goals as goal

pub returns-clause-does : goal.returns-clause-does
returns-clause-does g c = λ honest.
    let s = c.args.self.now in
    let d = g.D.Disk.state s.disk in
    let e = g.D.Disk.state c.rename-outcome.new.disk in
    let p = s.pending.items in
    let from = c.args.from.now in
    let to = c.args.to.now in
    does_move (renames from to) (kept_back p d) (kept_back p e) c.rename-outcome.result c.told_move.result (λ x. error_kind x ≡ NotFound) c.told_move.ensures.faults c.told_move.ensures.failed c.told_move.ensures.absent
    (told_ok c.rename-outcome.result c.told_move.result (kept_back p e ≡ after (renames from to) (kept_back p d)) c.told_move.ensures.passed
    (on_ok_then c.rename-outcome.result (e ≡ after (renames from to) d) (kept_back p e ≡ after (renames from to) (kept_back p d))
    (λ done. ap (kept_back p) done ∙ kept_renamed d from to p) (c.rename-outcome.ensures.done honest)))
    (told_err c.rename-outcome.result c.told_move.result (Fails (renames from to) (kept_back p d) (kept_back p e)) c.told_move.ensures.failed
    (on_err_then c.rename-outcome.result (AllOrNone d (after (renames from to) d) e) (Fails (renames from to) (kept_back p d) (kept_back p e))
    (λ left. fails_renamed d e from to p left) (c.rename-outcome.ensures.failed honest)))
    (if_err_then c.rename-outcome.result _ _ (λ x absent kind. ap (kept_back p) (absent kind).1) (c.rename-outcome.ensures.absent honest))

pub returns-clause-own_if_moved : goal.returns-clause-own_if_moved
returns-clause-own_if_moved g c = λ honest.
    let s = c.args.self.now in
    let d = g.D.Disk.state s.disk in
    let e = g.D.Disk.state c.rename-outcome.new.disk in
    let p = s.pending.items in
    let made = option_map g.D.Disk.number s.made in
    told_err c.rename-outcome.result c.told_move.result (MovesNoOther made c.args.from.now (kept_back p d) (kept_back p e)) c.told_move.ensures.failed
    (on_err_then c.rename-outcome.result (MovesNoOther made c.args.from.now d e) (MovesNoOther made c.args.from.now (kept_back p d) (kept_back p e))
    (λ how. ⊎_elim (λ same. inl (ap (kept_back p) same))
    (λ own. inr (number_with (longer p) d.scratch d c.args.from.now ∙ own)) how)
    (c.rename-outcome.ensures.own_if_moved honest))

pub returns-clause-no_name : goal.returns-clause-no_name
returns-clause-no_name g c = λ honest is.
    let s = c.args.self.now in
    let d = g.D.Disk.state s.disk in
    let from = c.args.from.now in
    number_with (longer s.pending.items) d.scratch d c.args.from.now
    ∙ absent_told c.rename-outcome.result c.told_move.result (λ x. error_kind x ≡ NotFound) (number_of d from ≡ None) c.told_move.ensures.failed c.told_move.ensures.absent is
    (if_err_then c.rename-outcome.result _ _ (λ x absent kind. (absent kind).0) (c.rename-outcome.ensures.absent honest))

pub returns-clause-no_memory : goal.returns-clause-no_memory
returns-clause-no_memory g c = λ honest is. no_memory_told c.told_move.result _ c.told_move.ensures.faults is

pub returns-clause-faults : goal.returns-clause-faults
returns-clause-faults g c = among_renames c.told_move.result c.told_move.ensures.faults

pub returns-clause-time : goal.returns-clause-time
returns-clause-time g c = λ honest.
    let s = c.args.self.now in
    let d = g.D.Disk.state s.disk in
    let e = g.D.Disk.state c.rename-outcome.new.disk in
    let p = s.pending.items in
    let holds : Holds g.D.Disk.number e s.scratch s.written = search rules in
    call_elapses g.D.Disk.state g.D.Disk.moment g.D.Disk.left_since s.disk c.rename-outcome.new.disk (renames c.args.from.now c.args.to.now) (kept_back p d) (kept_back p e) (c.rename-outcome.ensures.time honest)
    (λ image is. kept_image g.D.Disk.number d s.scratch s.written p image (s.holds honest) is) (λ image is. kept_image g.D.Disk.number e s.scratch s.written p image holds is)

pub returns-clause-within : goal.returns-clause-within
returns-clause-within g c = λ honest.
    let s = c.args.self.now in
    let d = g.D.Disk.state s.disk in
    let e = g.D.Disk.state c.rename-outcome.new.disk in
    let p = s.pending.items in
    let from = c.args.from.now in
    let to = c.args.to.now in
    let holds : Holds g.D.Disk.number e s.scratch s.written = search rules in
    on_ok_then c.told_move.result (e ≡ after (renames from to) d) (Includes (g.D.Disk.moment s.disk) (g.D.Disk.left_since c.rename-outcome.new.disk) (LeftBy (renames c.args.from.now c.args.to.now) (kept_back p d) (kept_back p e)))
    (λ done. call_includes g.D.Disk.state g.D.Disk.moment g.D.Disk.left_since (λ disk earlier image le now. g.met.D.Disk.counts_now disk earlier image honest le now) s.disk c.rename-outcome.new.disk (renames c.args.from.now c.args.to.now) (kept_back p d) (kept_back p e) (c.rename-outcome.ensures.time honest)
    (λ image is. disk_image g.D.Disk.number d s.scratch s.written p image (s.holds honest) is) (λ image is. disk_image g.D.Disk.number e s.scratch s.written p image holds is)
    (λ at passes. ⊎_elim (λ first. inl first) (λ last. inr (last ∙ sym (ap (kept_back p) done ∙ kept_renamed d from to p))) passes))
    (told_ok c.rename-outcome.result c.told_move.result (e ≡ after (renames from to) d) c.told_move.ensures.passed (c.rename-outcome.ensures.done honest))
