-- Each part is one of the codes.
use Rattle.std.proofs.Common.{◌+◌, ◌-◌, ◌∙◌, ap, arith, subst, sym}
use Rattle.std.proofs.lemmas.Result.{err_from_is_err_and}
use Rattle.cdb_files.specs.Parts.{AddsCodes, bytes_at}
use Rattle.cdb_files.proofs.CodePieces.{AreAll-ended, AreAll-next, AreAll-refused, AreAll-start, bytes_at-behind}
use Rattle.cdb_files.proofs.FaultLemmas.{SettingsFail-same}
use Rattle.cdb_files.proofs.PieceLemmas.{length-bytes_at}
use Rattle.rule_lookup.specs.Codes.{settings_in}
use Rattle.rule_lookup.specs.Lines.{pieces_of}
use Rattle.cdb_files.proofs.cdb_file.CdbFile.settings_at.Goals as goal

pub returns-in_err-done-clause-refused : goal.returns-in_err-done-clause-refused
returns-in_err-done-clause-refused g c =
    let returned = err_from_is_err_and c.from_residual.result c.from_residual.ensures.1 in
    let file = g.F.RulesFile.bytes c.args.self.now in
    let done = c.loop-done.done in
    let codes = bytes_at file c.args.position c.args.len in
    rw (returned.1, returned.2) (SettingsFail-same g.F.RulesFile.honest g.F.RulesFile.sound
    (bytes_at file (c.args.position + done) (c.args.len - done)) codes c.in_err-done.field-0.0 (λ honest none.
    AreAll-refused codes c.loop-done.settings done (c.loop-done.invariant.on honest)
    (ap (λ bs. settings_in (pieces_of 0 bs)) (sym (bytes_at-behind file c.args.position c.args.len done c.loop-done.invariant.inside)) ∙ none))
    c.in_err-done.ensures.refused)

pub loop-done-init : goal.loop-done-init
loop-done-init g c = record {
  inside = omega arith;
  on = λ honest. rw c.new-settings.ensures (AreAll-start (bytes_at (g.F.RulesFile.bytes c.args.self.now) c.args.position c.args.len));
}

pub loop-done-preserved : goal.loop-done-preserved
loop-done-preserved g c =
    let done = c.loop-done.done in
    let count = c.in_ok-done.field-0 in
    record {
      inside = omega (arith, c.in_ok-done.ensures.moves.1);
      on = λ honest.
          let file = g.F.RulesFile.bytes c.args.self.now in
          let codes = bytes_at file c.args.position c.args.len in
          AreAll-next codes c.loop-done.settings done (c.loop-done.invariant.on honest) c.push_next.new.settings count
          (subst (λ bs. AddsCodes bs c.loop-done.settings c.push_next.new.settings count) (bytes_at-behind file c.args.position c.args.len done c.loop-done.invariant.inside)
          (c.in_ok-done.ensures.added honest));
    }

pub returns-clause-found : goal.returns-clause-found
returns-clause-found g c = λ honest.
    let file = g.F.RulesFile.bytes c.args.self.now in
    AreAll-ended (bytes_at file c.args.position c.args.len) c.loop-done.settings c.loop-done.done (c.loop-done.invariant.on honest)
    (omega (arith, length-bytes_at file c.args.position c.args.len (c.requires.inside honest)))
