use Rattle.std.proofs.Common.{◌≡◌, ◌∙◌, ◌==◌, List, map, ap, rules, tests}
use Rattle.std.proofs.lemmas.Iterator.{YieldsList-from_slice}
use Rattle.std.proofs.lemmas.Iterator.Search.{any_from_yields_List}
use Rattle.server_words.specs.declared.options.OptionGiven.{OptionGiven}
use Rattle.server_words.specs.OptionWords.{is_given, letter_of}
use Rattle.server_words.specs.Words.{LetterGiven}
use Rattle.server_words.proofs.OptionLemmas.{list_any-letters}
use Rattle.server_words.proofs.options.Options.has.Goals as goal

pub returns : goal.returns
returns c =
    let gs = c.self.inside.given.items in
    let view : map letter_of gs ≡ c.args.self.now = cc in
    any_from_yields_List (λ (g : OptionGiven). g.letter == c.args.letter) _ _ c.any.result c.any.ensures.ran (YieldsList-from_slice gs cc) (λ x b q k. search (rules, tests))
    ∙ (list_any-letters (λ (g : LetterGiven). g.letter == c.args.letter) gs ∙ ap (λ (os : List LetterGiven). is_given os c.args.letter) view)
