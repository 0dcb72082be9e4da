use Rattle.std.proofs.Common.{◌≡◌, ◌∷◌, map, string_bytes, take}
use Rattle.stream_tools.specs.Starts.{ended}
use Rattle.stream_tools.proofs.child.words_of.Given as goal

abbrev pub invariant-loop-word : goal.invariant-loop-word
invariant-loop-word l = l.words.items ≡ ended (l.program.path ∷ map string_bytes (take l.word-index l.word-items))
