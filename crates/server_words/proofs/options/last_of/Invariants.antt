use Rattle.std.proofs.Common.{◌≡◌, map, take}
use Rattle.server_words.specs.OptionWords.{last_of, letter_of}
use Rattle.server_words.proofs.options.last_of.Given as goal

abbrev pub invariant-loop-given : goal.invariant-loop-given
invariant-loop-given l = l.last ≡ last_of (map letter_of (take l.given-index l.options)) l.letters
