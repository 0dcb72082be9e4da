-- The piece is the front of the codes.
use Rattle.std.proofs.Common.{◌-◌, ◌≤◌, ◌∙◌, ◌≡◌, Err, arith, ap, length, subst}
use Rattle.cdb_files.specs.Parts.{AddsCodes, bytes_at}
use Rattle.cdb_files.proofs.CodePieces.{AddsCodes-after, AddsCodes-piece, BeginsNone-piece, bytes_at-front}
use Rattle.cdb_files.proofs.FaultLemmas.{SettingsFail-code}
use Rattle.cdb_files.proofs.cdb_file.CdbFile.push_next.Goals as goal

pub returns-in-Err-clause-refused : goal.returns-in-Err-clause-refused
returns-in-Err-clause-refused g c =
    rw c.of_code.ensures (SettingsFail-code g.F.RulesFile.honest g.F.RulesFile.sound (bytes_at (g.F.RulesFile.bytes c.args.self.now) c.args.position c.args.len) c.in-Err.fault (λ fault is honest.
    let file = g.F.RulesFile.bytes c.args.self.now in
    let short : c.min.result ≤ c.args.len = grind (arith, c.min.ensures) in
    BeginsNone-piece (bytes_at file c.args.position c.args.len) c.in_ok-piece.piece.items c.min.result
    (c.in_ok-piece.ensures.bytes honest ∙ bytes_at-front file c.args.position c.min.result c.args.len short (c.requires.inside honest))
    (rw c.deref.ensures.value at (c.in-Err.ensures.refused fault (ap Err is)))))

pub returns-then-count-gt0-clause-added : goal.returns-then-count-gt0-clause-added
returns-then-count-gt0-clause-added g c = λ honest.
    let file = g.F.RulesFile.bytes c.args.self.now in
    let codes = bytes_at file c.args.position c.args.len in
    let short : c.min.result ≤ c.args.len = grind (arith, c.min.ensures) in
    let count : length c.in_ok-piece.piece.items - length c.in-Ok.rest.now ≡ c.len.result - length c.in-Ok.rest.now = omega (arith, c.len.ensures) in
    subst (AddsCodes codes c.args.settings.now c.push_settings.new.settings) count
    (AddsCodes-piece codes c.in_ok-piece.piece.items c.in-Ok.rest.now c.min.result
    (c.in_ok-piece.ensures.bytes honest ∙ bytes_at-front file c.args.position c.min.result c.args.len short (c.requires.inside honest))
    (rw c.deref.ensures.value at c.in-Ok.ensures.rest) c.args.settings.now c.push_settings.new.settings (rw c.deref.ensures.value at c.in-Ok.ensures.added))

pub returns-clause-added : goal.returns-clause-added
returns-clause-added g c = λ honest.
    let file = g.F.RulesFile.bytes c.args.self.now in
    let codes = bytes_at file c.args.position c.args.len in
    let short : c.min.result ≤ c.args.len = grind (arith, c.min.ensures) in
    let none : length c.in_ok-piece.piece.items - length c.in-Ok.rest.now ≡ 0 = omega (arith, c.len.ensures, c.if-count-gt0.false) in
    AddsCodes-after codes c.args.settings.now c.push_settings.new.settings c.push_long.new.settings _ c.push_long.result none
    (AddsCodes-piece codes c.in_ok-piece.piece.items c.in-Ok.rest.now c.min.result
    (c.in_ok-piece.ensures.bytes honest ∙ bytes_at-front file c.args.position c.min.result c.args.len short (c.requires.inside honest))
    (rw c.deref.ensures.value at c.in-Ok.ensures.rest) c.args.settings.now c.push_settings.new.settings (rw c.deref.ensures.value at c.in-Ok.ensures.added))
    (c.push_long.ensures.added honest)
