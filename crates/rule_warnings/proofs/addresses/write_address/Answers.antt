use Rattle.std.proofs.Common.{◌∙◌, ◌++◌, decimal, sym, ap}
use Rattle.rule_warnings.proofs.ReadLemmas.{length-range, get_or-range, OnOk-map}
use Rattle.rule_warnings.proofs.addresses.write_address.Goals as goal

pub number_at-number-requires : goal.number_at-number-requires
number_at-number-requires c = rw (← length-range c.args.addresses.now c.in-Range.front c.in-Range.back c.in-Range.numbers c.in-Range.is) c.requires

pub returns-in-Range : goal.returns-in-Range
returns-in-Range c =
    let range = c.in-Range in
    let written = range.front.now ++ decimal c.number_at-number.result ++ range.back.now in
    OnOk-map c.push_numbered.result
    (λ is. is ∙ ap (λ l. l ++ written) c.clear.ensures.items ∙ sym (get_or-range c.args.addresses.now range.front range.back range.numbers c.args.position c.number_at-number.result range.is c.requires (sym c.number_at-number.ensures)))
    c.push_numbered.ensures
