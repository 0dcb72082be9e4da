use Rattle.std.proofs.Common.{codes, string_bytes, sym, ◌∙◌, ap}
use Rattle.std.specs.Prelude.{option_map}
use Rattle.rule_lookup.specs.Addresses.{ipv4_in}
use Rattle.rules_tools.specs.Clients.{known}
use Rattle.rules_tools.proofs.ClientLemmas.{address_found, address_missed}
use Rattle.rules_tools.proofs.variables.read_address.Goals as goal

pub returns-in-Some-clause-told : goal.returns-in-Some-clause-told
returns-in-Some-clause-told g c = λ honest.
    address_found (known (g.V.Variables.value c.args.variables.now (codes "TCPREMOTEIP"))) (string_bytes c.in-Some.text) c.parse_address.result _ c.ok_or.result
    (sym (ap (option_map string_bytes) c.in-Some.is) ∙ c.in_ok-read_variable.ensures honest) (c.parse_address.ensures ∙ ap ipv4_in c.as_str.ensures.value) c.ok_or.ensures.value

pub returns-in-Some-clause-refused : goal.returns-in-Some-clause-refused
returns-in-Some-clause-refused g c = λ honest.
    address_missed (known (g.V.Variables.value c.args.variables.now (codes "TCPREMOTEIP"))) (string_bytes c.in-Some.text) c.parse_address.result _ c.ok_or.result
    (sym (ap (option_map string_bytes) c.in-Some.is) ∙ c.in_ok-read_variable.ensures honest) (c.parse_address.ensures ∙ ap ipv4_in c.as_str.ensures.value) c.ok_or.ensures.value
