-- The settings that were added are those of all codes, where none are left.
use Rattle.std.proofs.Common.{◌<◌, Result, Ok, Err, ap, length, arith}
use Rattle.std.proofs.lemmas.List.{nil_from_length}
use Rattle.std.proofs.lemmas.Result.{err_from_is_err_and}
use Rattle.rule_lookup.proofs.DecodeLemmas.{ReadsOn-all, settings_in-none, settings_in-part, settings_in-read}
use Rattle.rule_lookup.proofs.code.decode_settings.Goals as goal

-- the same fault in the place of another answer
fault_of : {A B E : Type 0} → E → Result A E → Result B E
fault_of other (Ok x) = Err other
fault_of other (Err fault) = Err fault

pub returns-clause-found : goal.returns-clause-found
returns-clause-found c =
    let added = ReadsOn-all c.push_settings.new.settings c.args.codes.now c.in_ok-rest.rest.now (rw c.new-settings.ensures at c.in_ok-rest.ensures.added) in
    settings_in-read c.push_settings.new.settings c.in_ok-rest.rest.now c.args.codes.now added (nil_from_length c.in_ok-rest.rest.now (grind arith))

pub returns-in_err-rest-clause-refused : goal.returns-in_err-rest-clause-refused
unfolding fault_of
returns-in_err-rest-clause-refused c = λ fault is.
    let returned = err_from_is_err_and c.from_residual.result c.from_residual.ensures.1 in
    settings_in-none c.args.codes.now (c.in_err-rest.ensures.refused fault (ap (fault_of c.in_err-rest.field-0.0) (rw (returned.1, returned.2) at is)))

pub returns-then-not-is_empty-clause-refused : goal.returns-then-not-is_empty-clause-refused
returns-then-not-is_empty-clause-refused c = λ fault _.
    let added = ReadsOn-all c.push_settings.new.settings c.args.codes.now c.in_ok-rest.rest.now (rw c.new-settings.ensures at c.in_ok-rest.ensures.added) in
    let some : 0 < length c.in_ok-rest.rest.now = grind arith in
    settings_in-part c.push_settings.new.settings c.in_ok-rest.rest.now c.args.codes.now added c.in_ok-rest.ensures.part some
