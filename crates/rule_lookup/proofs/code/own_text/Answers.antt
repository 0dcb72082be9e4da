-- What `from_utf8` answers, as a test.
use Rattle.std.proofs.Common.{◌≡◌, ℕ, true, false, Result, Ok, Err, IfOk, MatchOption, string_bytes, ap, subst}
use Rattle.std.specs.Prelude.{IsOk}
use Rattle.std.specs.Result.{result_ok}
use Rattle.std.specs.Str.{IsUtf8, is_utf8}
use Rattle.std.specs.declared.string.String.{String}
use Rattle.std.specs.declared.vec.Vec.{Vec}
use Rattle.std.proofs.lemmas.Bool.{false_from_ne_true}
use Rattle.std.proofs.lemmas.Str.{IsUtf8-from_is_utf8, IsUtf8-had, is_utf8-from_IsUtf8}
use Rattle.rule_lookup.proofs.code.own_text.Goals as goal

owned_as : {Z E : Type 0} (bytes : Vec ℕ Z) (read : Result (String Z) E) → IfOk read (λ text. text.bytes ≡ bytes) → (IsUtf8 bytes.items → IsOk read) → MatchOption (result_ok read) (is_utf8 bytes.items ≡ false) (λ text. (is_utf8 bytes.items ≡ true) × (string_bytes text ≡ bytes.items))
owned_as {Z = Z} bytes (Ok text) same succeeds = (is_utf8-from_IsUtf8 bytes.items (subst (λ (v : Vec ℕ Z). IsUtf8 v.items) same (IsUtf8-had text.bytes.items text.ok)), ap (λ (v : Vec ℕ Z). v.items) same)
owned_as bytes (Err e) same succeeds = false_from_ne_true (is_utf8 bytes.items) (λ yes. let none = succeeds (IsUtf8-from_is_utf8 bytes.items yes) in absurd (cc))

pub returns : goal.returns
returns c = rw c.ok.ensures.value (owned_as _ _ c.from_utf8.ensures.ok c.from_utf8.ensures.succeeds)
