use Rattle.std.proofs.Common.{◌∙◌, sym, ap}
use Rattle.std.specs.Str.{is_utf8}
use Rattle.ucspi_tools.proofs.WordLemmas.{not_all_texts}
use Rattle.ucspi_tools.proofs.choice.are_texts.Goals as goal

pub returns-then-not-is_text : goal.returns-then-not-is_text
returns-then-not-is_text c =
    sym (not_all_texts c.args.words.now c.loop-word.word-index c.word-item.result c.loop-word-test.true c.word-item.is
    (sym (ap is_utf8 c.deref.ensures.value) ∙ sym c.is_text.ensures ∙ c.if-not-is_text.true))
