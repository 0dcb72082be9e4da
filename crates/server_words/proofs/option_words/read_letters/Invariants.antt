use Rattle.std.proofs.Common.{◌≡◌, length}
use denote.Text.{Utf8}
use denote.Shadow.{shadow}
use Rattle.std.specs.Str.{chars}
use Rattle.server_words.specs.Words.{before_letters, letters_read}
use Rattle.server_words.proofs.option_words.read_letters.Given as goal

abbrev pub invariant-loop-letter : goal.invariant-loop-letter
invariant-loop-letter l =
    shadow (Utf8 l.rest) × (before_letters l.options (letters_read (chars l.letters) (chars l.rest)) ≡ before_letters l.fn.options (letters_read (chars l.letters) (chars l.text)))

abbrev pub decreases-loop-letter : goal.decreases-loop-letter
decreases-loop-letter l = length (chars l.rest)
