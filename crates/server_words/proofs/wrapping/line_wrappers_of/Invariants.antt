use Rattle.std.proofs.Common.{◌≡◌, drop}
use Rattle.server_words.specs.Wrappings.{line_wrappers_in, texts}
use Rattle.server_words.proofs.LineWrapperLemmas.{before}
use Rattle.server_words.proofs.wrapping.line_wrappers_of.Given as goal

abbrev pub invariant-loop-name : goal.invariant-loop-name
invariant-loop-name l =
    before l.line_wrappers.items (line_wrappers_in (texts (drop l.name-index l.names))) ≡ line_wrappers_in (texts l.names)
