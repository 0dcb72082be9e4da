use Rattle.std.proofs.Common.{◌++◌, ◌∙◌, List, ℕ, sym, ap}
use Rattle.std.specs.Char.{encode_utf8}
use Rattle.std.proofs.lemmas.Str.{chars_past_char}
use Rattle.server_words.proofs.letter.split_first_char.Goals as goal

pub returns-clause-characters : goal.returns-clause-characters
returns-clause-characters c =
    let cut = sym c.chars-rest.ensures.rest ∙ (c.in_ok-first.ensures.steps.0 ∙ ap (λ (rest : List ℕ). encode_utf8 c.in_ok-first.first ++ rest) (sym c.as_str.ensures)) in
    chars_past_char c.args.text.now c.as_str.result.now c.in_ok-first.first c.utf8.text cut

pub returns-clause-bytes : goal.returns-clause-bytes
returns-clause-bytes c =
    sym c.chars-rest.ensures.rest ∙ (c.in_ok-first.ensures.steps.0 ∙ ap (λ (rest : List ℕ). encode_utf8 c.in_ok-first.first ++ rest) (sym c.as_str.ensures))
