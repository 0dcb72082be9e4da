-- A range is its parts with the number between them.
use Rattle.std.proofs.Common.{◌++◌, ◌∙◌, decimal, sym, ap}
use Rattle.std.proofs.lemmas.Result.{err_from_is_err_and}
use Rattle.rule_lookup.specs.Pairs.{Rule}
use Rattle.rule_lines.proofs.RowLemmas.{get_or-range, position-range}
use Rattle.rule_lines.proofs.list.Pair.append_address.Goals as goal

pub number_at-number-requires : goal.number_at-number-requires
number_at-number-requires c =
    position-range c.self.inside.line.addresses c.in-Range.front c.in-Range.numbers c.in-Range.back c.in-Range.is c.self.inside.position c.self.invariant.1

pub returns-in_ok-append_numbered-in-Range : goal.returns-in_ok-append_numbered-in-Range
returns-in_ok-append_numbered-in-Range c =
    let front = c.in-Range.front.now in
    let back = c.in-Range.back.now in
    let address = ap (λ (rule : Rule). rule.address) (sym c.self.view_is) ∙ get_or-range c.self.inside.line.addresses c.in-Range.front c.in-Range.numbers c.in-Range.back c.in-Range.is c.self.inside.position c.self.invariant.1 in
    c.in_ok-append_numbered-in-Range.ensures ∙ ap (λ n. c.args.out.now.items ++ (front ++ decimal n ++ back)) c.number_at-number.ensures ∙ ap (λ bytes. c.args.out.now.items ++ bytes) (sym address)

pub returns-in_err-append_numbered-in-Range : goal.returns-in_err-append_numbered-in-Range
returns-in_err-append_numbered-in-Range c =
    let returned = err_from_is_err_and c.from_residual-in_err-append_numbered-in-Range.result c.from_residual-in_err-append_numbered-in-Range.ensures.1 in
    rw returned.1 c.in_err-append_numbered-in-Range.ensures
