use Rattle.std.proofs.Common.{◌≡◌, Bor, map, option_map, take}
use Rattle.server_words.specs.declared.options.OptionGiven.{OptionGiven}
use Rattle.server_words.specs.OptionWords.{last_given, letter_of}
use Rattle.server_words.proofs.options.last_given.Given as goal

abbrev pub invariant-loop-given : goal.invariant-loop-given
invariant-loop-given l =
    option_map (λ (given : Bor OptionGiven). letter_of given.now) l.last ≡ last_given (map letter_of (take l.given-index l.options)) l.letter
