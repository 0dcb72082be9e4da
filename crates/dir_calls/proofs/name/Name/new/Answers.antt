use Rattle.std.proofs.Common.{rules, ◌≡◌, true, false, sym, subst}
use Rattle.std.specs.Prelude.{IsTrue, is_none}
use Rattle.std.specs.Str.{is_utf8}
use Rattle.std.specs.String.{string_bytes}
use Rattle.std.proofs.lemmas.Str.{is_utf8-from_IsUtf8}
use Rattle.dir_calls.specs.Names.{name_fault}
use Rattle.dir_calls.proofs.NameRules.{is_utf8-false}
use Rattle.dir_calls.proofs.name.Name.new.Goals as goal

pub returns-in_default-clause-refused : goal.returns-in_default-clause-refused
returns-in_default-clause-refused c = let text : is_utf8 c.args.bytes.now ≡ false = is_utf8-false _ c.in_default.ensures.cases.0 in search rules

pub returns-in-Ok-from_str-clause-refused : goal.returns-in-Ok-from_str-clause-refused
returns-in-Ok-from_str-clause-refused c = let text : is_utf8 c.args.bytes.now ≡ true = is_utf8-from_IsUtf8 _ c.in-Ok.ensures.cases.1 in search rules

pub returns-in-Err-clause-refused : goal.returns-in-Err-clause-refused
returns-in-Err-clause-refused c = let text : is_utf8 c.args.bytes.now ≡ true = is_utf8-from_IsUtf8 _ c.in-Ok.ensures.cases.1 in search rules

pub invariant_of-result : goal.invariant_of-result
invariant_of-result c =
    let text : is_utf8 c.args.bytes.now ≡ true = is_utf8-from_IsUtf8 _ c.in-Ok.ensures.cases.1 in
    let same : string_bytes c.in-Ok-from_str.text ≡ c.args.bytes.now = search rules in
    let allowed : IsTrue (is_none (name_fault c.args.bytes.now)) = search rules in
    subst (λ bytes. IsTrue (is_none (name_fault bytes))) (sym same) allowed
