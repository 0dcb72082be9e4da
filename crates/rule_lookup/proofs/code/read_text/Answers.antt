-- What `from_utf8` answers, as a test.
use Rattle.std.proofs.Common.{◌≡◌, List, ℕ, true, false, Result, Ok, Err, MatchOption, MatchResult}
use Rattle.std.specs.Borrow.{Bor}
use Rattle.std.specs.Result.{result_ok}
use Rattle.std.specs.Str.{IsUtf8, is_utf8}
use Rattle.std.proofs.lemmas.Bool.{false_from_ne_true}
use Rattle.std.proofs.lemmas.Str.{IsUtf8-from_is_utf8, is_utf8-from_IsUtf8}
use Rattle.rule_lookup.proofs.code.read_text.Goals as goal

read_as : {E : Type 0} (bytes : List ℕ) (Q : E → Type 0) (read : Result (Bor (List ℕ)) E) → MatchResult read (λ text. (text.now ≡ bytes) × IsUtf8 bytes) (λ e. ¬ (IsUtf8 bytes) × Q e) → MatchOption (result_ok read) (is_utf8 bytes ≡ false) (λ text. (is_utf8 bytes ≡ true) × (text.now ≡ bytes))
read_as bytes Q (Ok text) is = (is_utf8-from_IsUtf8 bytes is.1, is.0)
read_as bytes Q (Err e) is = false_from_ne_true (is_utf8 bytes) (λ yes. is.0 (IsUtf8-from_is_utf8 bytes yes))

pub returns : goal.returns
returns c = rw c.ok.ensures.value (read_as _ _ _ c.from_utf8.ensures.cases)
