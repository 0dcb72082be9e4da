-- The code of the setting is cut at its zero byte, and at its first `=`.
use Rattle.std.proofs.Common.{◌+◌, ◌-◌, ◌<◌, ◌∙◌, ◌≡◌, ◌∷◌, Err, [], true, false, nat_eq, arith, ap, refl, sym}
use Rattle.std.specs.List.{starts_with}
use Rattle.cdb_files.specs.Parts.{bytes_at}
use Rattle.cdb_files.proofs.CodePieces.{AddsCodes-setting, name-clean, no_end, no_equals, no_plus, no_setting, plus_and, value-clean}
use Rattle.cdb_files.proofs.FaultLemmas.{SettingsFail-code}
use Rattle.cdb_files.proofs.PieceLemmas.{length-bytes_at}
use Rattle.rule_lookup.specs.Lines.{has_byte}
use Rattle.cdb_files.proofs.cdb_file.CdbFile.push_long.Goals.{then-has-via-then-has, then-has-via-else-has+then-has-2, then-has-via-else-has+else-has-2+then-has-3}
use Rattle.cdb_files.proofs.cdb_file.CdbFile.push_long.Goals as goal

pub returns-in_default-clause-refused : goal.returns-in_default-clause-refused
returns-in_default-clause-refused g c = λ honest.
    let file = g.F.RulesFile.bytes c.args.self.now in
    let codes = bytes_at file c.args.position c.args.len in
    no_end codes (omega (arith, length-bytes_at file c.args.position c.args.len (c.requires.inside honest)))
    (rw c.in_default.is at (c.in_ok-end.ensures.first honest))

pub returns-in_default-2-clause-refused : goal.returns-in_default-2-clause-refused
returns-in_default-2-clause-refused g c = λ honest.
    let file = g.F.RulesFile.bytes c.args.self.now in
    let below : c.in-Some.end < c.args.len = rw c.in-Some.is at c.in_ok-end.ensures.within in
    no_equals file c.args.position c.args.len c.in-Some.end (c.requires.inside honest) below (rw c.in-Some.is at (c.in_ok-end.ensures.first honest))
    (rw c.in_default-2.is at (c.in_ok-equals.ensures.first honest))

pub returns-then-not-starts_with-clause-refused : goal.returns-then-not-starts_with-clause-refused
returns-then-not-starts_with-clause-refused g c = λ honest.
    let file = g.F.RulesFile.bytes c.args.self.now in
    let below : c.in-Some.end < c.args.len = rw c.in-Some.is at c.in_ok-end.ensures.within in
    let before : c.in-Some-2.equals < c.in-Some.end = rw c.in-Some-2.is at c.in_ok-equals.ensures.within in
    let read = c.in_ok-name.ensures.bytes honest in
    no_plus file c.args.position c.args.len c.in-Some.end (c.requires.inside honest) below (rw c.in-Some.is at (c.in_ok-end.ensures.first honest))
    c.in-Some-2.equals before (rw c.in-Some-2.is at (c.in_ok-equals.ensures.first honest)) c.in_ok-name.name.items (bytes_at file (c.args.position + c.in-Some-2.equals + 1) (c.in-Some.end - c.in-Some-2.equals - 1)) read refl
    (grind arith)

contradicted : {P : Type 0} → true ≡ false → P
contradicted is = absurd (cc)

pub returns-then-has-clause-refused : goal.returns-then-has-clause-refused
returns-then-has-clause-refused g c = λ honest.
    let file = g.F.RulesFile.bytes c.args.self.now in
    let below : c.in-Some.end < c.args.len = rw c.in-Some.is at c.in_ok-end.ensures.within in
    let before : c.in-Some-2.equals < c.in-Some.end = rw c.in-Some-2.is at c.in_ok-equals.ensures.within in
    let front = c.in_ok-name.ensures.bytes honest in
    let value = c.in_ok-value.ensures.bytes honest in
    let starts : starts_with nat_eq c.in_ok-name.name.items (43 ∷ []) ≡ true = grind arith in
    let plus : c.in_ok-name.name.items ≡ 43 ∷ c.remove.new.self.items = plus_and c.in_ok-name.name.items starts ∙ ap (λ bs. 43 ∷ bs) (sym c.remove.ensures.by_index.2) in
    let named = name-clean file c.args.position c.args.len c.in-Some.end (c.requires.inside honest) below (rw c.in-Some.is at (c.in_ok-end.ensures.first honest))
    c.in-Some-2.equals before (rw c.in-Some-2.is at (c.in_ok-equals.ensures.first honest)) c.in_ok-name.name.items c.in_ok-value.value.items front value c.remove.new.self.items plus in
    let valued = value-clean file c.args.position c.args.len c.in-Some.end (c.requires.inside honest) below (rw c.in-Some.is at (c.in_ok-end.ensures.first honest))
    c.in-Some-2.equals before (rw c.in-Some-2.is at (c.in_ok-equals.ensures.first honest)) c.in_ok-name.name.items c.in_ok-value.value.items front value in
    elim c.then-has.branch [
      | then-has-via-then-has w ↦ contradicted (sym w.if-has.true ∙ c.has.ensures ∙ ap (has_byte 61) c.deref-2.ensures.value ∙ named.0)
      | then-has-via-else-has+then-has-2 w ↦ contradicted (sym w.if-has-2.true ∙ w.has-else-has.ensures ∙ ap (has_byte 0) w.deref-else-has.ensures.value ∙ named.1)
      | then-has-via-else-has+else-has-2+then-has-3 w ↦ contradicted (sym w.if-has-3.true ∙ w.has-else-has-2.ensures ∙ ap (has_byte 0) w.deref-else-has-2.ensures.value ∙ valued)
    ]

pub returns-in-Ok-clause-added : goal.returns-in-Ok-clause-added
returns-in-Ok-clause-added g c = λ honest.
    let file = g.F.RulesFile.bytes c.args.self.now in
    let below : c.in-Some.end < c.args.len = rw c.in-Some.is at c.in_ok-end.ensures.within in
    let before : c.in-Some-2.equals < c.in-Some.end = rw c.in-Some-2.is at c.in_ok-equals.ensures.within in
    let front = c.in_ok-name.ensures.bytes honest in
    let value = c.in_ok-value.ensures.bytes honest in
    let starts : starts_with nat_eq c.in_ok-name.name.items (43 ∷ []) ≡ true = grind arith in
    let plus : c.in_ok-name.name.items ≡ 43 ∷ c.remove.new.self.items = plus_and c.in_ok-name.name.items starts ∙ ap (λ bs. 43 ∷ bs) (sym c.remove.ensures.by_index.2) in
    AddsCodes-setting file c.args.position c.args.len c.in-Some.end (c.requires.inside honest) below (rw c.in-Some.is at (c.in_ok-end.ensures.first honest))
    c.in-Some-2.equals before (rw c.in-Some-2.is at (c.in_ok-equals.ensures.first honest)) c.in_ok-name.name.items c.in_ok-value.value.items front value c.remove.new.self.items plus
    c.args.settings.now c.push_parts.new.settings c.in-Ok.ensures.added

pub returns-in-Err-clause-refused : goal.returns-in-Err-clause-refused
returns-in-Err-clause-refused g c =
    rw c.of_code.ensures (SettingsFail-code g.F.RulesFile.honest g.F.RulesFile.sound (bytes_at (g.F.RulesFile.bytes c.args.self.now) c.args.position c.args.len) c.in-Err.fault (λ fault is honest.
    let file = g.F.RulesFile.bytes c.args.self.now in
    let below : c.in-Some.end < c.args.len = rw c.in-Some.is at c.in_ok-end.ensures.within in
    let before : c.in-Some-2.equals < c.in-Some.end = rw c.in-Some-2.is at c.in_ok-equals.ensures.within in
    let front = c.in_ok-name.ensures.bytes honest in
    let value = c.in_ok-value.ensures.bytes honest in
    let starts : starts_with nat_eq c.in_ok-name.name.items (43 ∷ []) ≡ true = grind arith in
    let plus : c.in_ok-name.name.items ≡ 43 ∷ c.remove.new.self.items = plus_and c.in_ok-name.name.items starts ∙ ap (λ bs. 43 ∷ bs) (sym c.remove.ensures.by_index.2) in
    no_setting file c.args.position c.args.len c.in-Some.end (c.requires.inside honest) below (rw c.in-Some.is at (c.in_ok-end.ensures.first honest))
    c.in-Some-2.equals before (rw c.in-Some-2.is at (c.in_ok-equals.ensures.first honest)) c.in_ok-name.name.items c.in_ok-value.value.items front value c.remove.new.self.items plus
    (c.in-Err.ensures.refused fault (ap Err is))))
