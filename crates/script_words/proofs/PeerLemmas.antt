-- The names that a line tells are ones that a peer may have.
use Rattle.std.proofs.Common.{◌≡◌, ◌≢◌, ℕ, ◌<◌, true, false, eqb, nat_lt, nat_le, List, [], ◌∷◌, length, Option, Some, None, refl, sym, subst, arith}
use Rattle.std.specs.List.{list_all}
use Rattle.std.proofs.lemmas.Bool.{and_parts, le-leb, lt-ltb, ltb-true}
use Rattle.std.proofs.lemmas.Bool.Decides.{nat_tests}
use Rattle.rule_lookup.specs.Lines.{has_byte}
use Rattle.rule_lookup.specs.declared.instr.Verdict.{Verdict}
use Rattle.rule_lookup.specs.Peers.{fits}
use Rattle.script_words.specs.LogLines.{IsToldWhole, Reading, TellsPeer, Told, is_plain, tells_or_not, told_in, words_of}
use Rattle.script_words.proofs.LineLemmas.{told-read}

plain_not_zero : (b : ℕ) → is_plain b ≡ true → eqb b 0 ≡ false
plain_not_zero b plain = grind (arith, nat_tests)

no_zero : (bytes : List ℕ) → list_all is_plain bytes ≡ true → has_byte 0 bytes ≡ false
no_zero [] plain = refl
no_zero (b ∷ bs) plain =
    let parts = and_parts (is_plain b) (list_all is_plain bs) plain in
    rw (plain_not_zero b parts.0) (no_zero bs parts.1)

some_bytes : (name : List ℕ) → name ≢ [] → 0 < length name
some_bytes [] some = absurd (some refl)
some_bytes (b ∷ bs) some = omega arith

fits-told : (name : Option (List ℕ)) → IsToldWhole name → fits name ≡ true
fits-told None told = refl
fits-told (Some name) (some, whole) =
    let parts = and_parts (nat_lt (length name) 100) (list_all is_plain name) whole in
    let short = ltb-true (length name) 100 parts.0 in
    let least : nat_lt 0 (length name) ≡ true = lt-ltb 0 (length name) (some_bytes name some) in
    let most : nat_le (length name) 255 ≡ true = le-leb (length name) 255 (omega (arith, short)) in
    rw (least, most, no_zero name parts.1)

tells_peer : (verdict : Verdict) (words : List ℕ) (o : Option Told) → told_in verdict (words_of words) ≡ o → TellsPeer (tells_or_not o)
tells_peer verdict words None is = tt
tells_peer verdict words (Some told) is =
    let of = (told-read verdict words told is).0 in
    (fits-told told.peer.host of.host, fits-told told.peer.info of.info)

-- whatever the words behind a front tell
pub TellsPeer-words : (verdict : Verdict) (words : List ℕ) (r : Reading) → r ≡ tells_or_not (told_in verdict (words_of words)) → TellsPeer r
TellsPeer-words verdict words r is = subst TellsPeer (sym is) (tells_peer verdict words (told_in verdict (words_of words)) refl)
