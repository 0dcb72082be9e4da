use Rattle.std.proofs.Common.{Some, sym, ap, ◌∙◌}
use Rattle.rule_lookup.proofs.AddressLemmas.{ipv4_in-IsDotted, address_in_none}
use Rattle.rule_lookup.proofs.address.parse_address.Goals as goal

pub returns-in-Ok : goal.returns-in-Ok
returns-in-Ok c =
    ap Some c.octets.ensures ∙ sym (ipv4_in-IsDotted c.args.text.now c.in-Ok.address.octets c.in-Ok.ensures.value)

pub returns-in-Err : goal.returns-in-Err
returns-in-Err c =
    sym (address_in_none c.args.text.now λ octets h. c.in-Err.ensures.value (record { octets = octets }) h)
