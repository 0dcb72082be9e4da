use Rattle.std.proofs.Common.{◌≡◌, map, string_bytes, take}
use Rattle.stream_tools.specs.Programs.{text_in, texts_of}
use Rattle.stream_tools.proofs.started.texts_of.Given as goal

abbrev pub invariant-loop-word : goal.invariant-loop-word
invariant-loop-word l = map string_bytes l.texts.items ≡ map text_in (texts_of (take l.word-index l.words))
