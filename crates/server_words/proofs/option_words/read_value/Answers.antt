use Rattle.std.proofs.Common.{◌∙◌, List, Ok, Some, None, length, sym, ap, arith}
use Rattle.std.proofs.lemmas.Bool.{eqb-true, eqb-false}
use Rattle.server_words.specs.Words.{LetterGiven, WordRead, before_letters}
use Rattle.server_words.proofs.LetterLemmas.{before_letters-nil, value_in_rest-nothing, value_in_rest-rest}
use Rattle.server_words.proofs.option_words.read_value.Goals as goal

pub returns-then-is_empty-clause-read : goal.returns-then-is_empty-clause-read
returns-then-is_empty-clause-read c =
    ap (λ (read : WordRead). before_letters c.args.options.now (Ok read)) (value_in_rest-nothing c.args.letter c.args.rest.now (eqb-true (length c.args.rest.now) 0 (sym c.if-is_empty.ensures)))
    ∙ before_letters-nil c.args.options.now (Some c.args.letter)

pub returns-clause-read : goal.returns-clause-read
returns-clause-read c =
    let some = eqb-false (length c.args.rest.now) 0 (sym c.if-is_empty.ensures) in
    ap (λ (read : WordRead). before_letters c.args.options.now (Ok read)) (value_in_rest-rest c.args.letter c.args.rest.now c.utf8.rest (omega arith))
    ∙ ap (λ (os : List LetterGiven). Ok (record { options = os; wanting = None })) (sym c.in_ok-push.ensures.added)
