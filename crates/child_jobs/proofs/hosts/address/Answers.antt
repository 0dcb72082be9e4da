use Rattle.std.proofs.Common.{Some, sym, ap, ◌∙◌}
use Rattle.rule_lookup.proofs.AddressLemmas.{ipv4_in-IsDotted, address_in_none}
use Rattle.child_jobs.proofs.hosts.address.Goals as goal

pub returns-in-Ok : goal.returns-in-Ok
returns-in-Ok c =
    ap Some c.octets.ensures ∙ sym (ipv4_in-IsDotted c.args.bytes.now c.in-Ok.address.octets c.in-Ok.ensures)

pub returns-in-Err : goal.returns-in-Err
returns-in-Err c =
    sym (address_in_none c.args.bytes.now λ octets h. c.in-Err.ensures (record { octets = octets }) h)
