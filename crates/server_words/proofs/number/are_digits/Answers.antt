use Rattle.std.proofs.Common.{◌≡◌, ◌∙◌, ◌&&◌, ℕ, List, [], ◌∷◌, refl, ap, rules, tests}
use Rattle.std.specs.Char.{is_ascii_digit}
use Rattle.std.specs.List.{list_all}
use Rattle.std.specs.Str.{all_ascii_digits}
use Rattle.std.proofs.lemmas.Iterator.{YieldsList-from_slice}
use Rattle.std.proofs.lemmas.Iterator.Search.{all_from_yields_List}
use Rattle.server_words.proofs.number.are_digits.Goals as goal

list_all-digits : (bs : List ℕ) → list_all is_ascii_digit bs ≡ all_ascii_digits bs
list_all-digits [] = refl
list_all-digits (b ∷ bs) = ap (λ t. is_ascii_digit b && t) (list_all-digits bs)

pub returns : goal.returns
returns c =
    all_from_yields_List is_ascii_digit _ _ c.all.result c.all.ensures.ran (YieldsList-from_slice c.args.text.now cc) (λ x b q k. search (rules, tests))
    ∙ list_all-digits c.args.text.now
