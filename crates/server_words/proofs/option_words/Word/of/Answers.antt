use Rattle.std.proofs.Common.{length, sym}
use Rattle.std.specs.Str.{chars}
use Rattle.std.proofs.lemmas.Bool.{eqb-true, eqb-false}
use Rattle.std.proofs.lemmas.Str.{IsUtf8-past_char}
use Rattle.server_words.proofs.WordLemmas.{chars-empty, chars-some, kind_of-end_mark, kind_of-letters}
use Rattle.server_words.proofs.option_words.Word.of.Goals as goal
use Rattle.server_words.proofs.option_words.Word.of.Goals.{else-first-eq45-via-then-first-eq45+else-is_empty, else-first-eq45-via-else-first-eq45}

pub returns-then-is_empty : goal.returns-then-is_empty
returns-then-is_empty c =
    let none = chars-empty c.in-Some.rest.now (eqb-true (length c.in-Some.rest.now) 0 (sym c.if-is_empty.ensures)) in
    kind_of-end_mark (chars c.args.word.now) (chars c.in-Some-eq45-default.letters.now) (chars c.in-Some.rest.now) _ _ c.in-Some-eq45-default.ensures.characters (cc) c.in-Some.ensures.characters c.if-first-eq45.true none

pub returns-else-first-eq45 : goal.returns-else-first-eq45
returns-else-first-eq45 c =
    let letters = IsUtf8-past_char c.args.word.now c.in-Some-eq45-default.letters.now _ c.utf8.word c.in-Some-eq45-default.ensures.bytes in
    let rest = IsUtf8-past_char c.in-Some-eq45-default.letters.now c.in-Some.rest.now _ letters c.in-Some.ensures.bytes in
    kind_of-letters (chars c.args.word.now) (chars c.in-Some-eq45-default.letters.now) (chars c.in-Some.rest.now) _ _ c.in-Some-eq45-default.ensures.characters (cc) c.in-Some.ensures.characters (λ dash none. elim c.else-first-eq45.branch [
      | else-first-eq45-via-then-first-eq45+else-is_empty w ↦ chars-some c.in-Some.rest.now rest (eqb-false (length c.in-Some.rest.now) 0 (sym w.if-is_empty.ensures)) none
      | else-first-eq45-via-else-first-eq45 w ↦ w.if-first-eq45.false dash
    ])
