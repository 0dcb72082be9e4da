use Rattle.std.proofs.Common.{◌≡◌, true, take}
use Rattle.std.specs.List.{list_all}
use Rattle.std.specs.Str.{is_utf8}
use Rattle.stream_tools.specs.Programs.{texts_of}
use Rattle.ucspi_tools.proofs.choice.are_texts.Given as goal

abbrev pub invariant-loop-word : goal.invariant-loop-word
invariant-loop-word l = list_all is_utf8 (texts_of (take l.word-index l.words)) ≡ true
