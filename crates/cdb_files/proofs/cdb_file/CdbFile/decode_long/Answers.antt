-- The verdict is that of the first two bytes, and the settings are read behind it.
use Rattle.std.proofs.Common.{◌+◌, ◌-◌, length}
use Rattle.std.proofs.lemmas.Result.{err_from_is_err_and}
use Rattle.cdb_files.specs.Parts.{bytes_at, value_of, value_position}
use Rattle.cdb_files.proofs.CodePieces.{decoded-behind, refused-behind}
use Rattle.cdb_files.proofs.FaultLemmas.{CodeFails-settings}
use Rattle.cdb_files.proofs.cdb_file.CdbFile.decode_long.Goals as goal

pub returns-clause-decoded : goal.returns-clause-decoded
returns-clause-decoded g c = λ honest.
    let split = rw c.deref.ensures.value at c.split_verdict-verdict.ensures in
    decoded-behind (g.F.RulesFile.bytes c.args.self.now) (value_position c.args.stored) c.args.stored.value_len (c.requires.inside honest) c.requires.long
    c.in_ok-head.head.items _ c.split_verdict-verdict.result.0 (rw c.value_position.ensures at (c.in_ok-head.ensures.bytes honest)) split.verdict split.codes
    c.in_ok-settings.settings (rw c.value_position-2.ensures at (c.in_ok-settings.ensures.found honest))

pub returns-in_err-settings-clause-refused : goal.returns-in_err-settings-clause-refused
returns-in_err-settings-clause-refused g c =
    let returned = err_from_is_err_and c.from_residual-in_err-settings.result c.from_residual-in_err-settings.ensures.1 in
    let split = rw c.deref.ensures.value at c.split_verdict-verdict.ensures in
    rw (returned.1, returned.2) (CodeFails-settings g.F.RulesFile.honest g.F.RulesFile.sound (value_of (g.F.RulesFile.bytes c.args.self.now) c.args.stored)
    (bytes_at (g.F.RulesFile.bytes c.args.self.now) (value_position c.args.stored + (2 - length c.split_verdict-verdict.result.1.now)) (c.args.stored.value_len - (2 - length c.split_verdict-verdict.result.1.now))) c.in_err-settings.field-0.0 (λ honest none.
    refused-behind (g.F.RulesFile.bytes c.args.self.now) (value_position c.args.stored) c.args.stored.value_len (c.requires.inside honest) c.requires.long
    c.in_ok-head.head.items _ c.split_verdict-verdict.result.0 (rw c.value_position.ensures at (c.in_ok-head.ensures.bytes honest)) split.verdict split.codes none)
    (rw c.value_position-2.ensures at c.in_err-settings.ensures.refused))
