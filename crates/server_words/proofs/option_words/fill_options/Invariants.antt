use Rattle.std.proofs.Common.{◌≡◌, length, map, None, string_bytes}
use Rattle.std.specs.Str.{chars}
use Rattle.server_words.specs.Words.{before, reading_from}
use Rattle.server_words.proofs.option_words.fill_options.Given as goal

abbrev pub invariant-loop-word : goal.invariant-loop-word
invariant-loop-word l =
    before l.options (reading_from (chars l.letters) (map string_bytes l.rest) None) ≡ reading_from (chars l.letters) (map string_bytes l.words) None

abbrev pub decreases-loop-word : goal.decreases-loop-word
decreases-loop-word l = length l.rest
