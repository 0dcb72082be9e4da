use Rattle.std.proofs.Common.{sym, arith}
use Rattle.rule_lookup.proofs.AddressLemmas.{address_in_none}
use Rattle.rule_warnings.proofs.WholeLemmas.{length-IsDotted, IsUtf8-IsDotted}
use Rattle.rule_warnings.proofs.client.octets_of.Goals as goal

pub returns-then-address-gt-LONGEST : goal.returns-then-address-gt-LONGEST
returns-then-address-gt-LONGEST c =
    sym (address_in_none c.args.address.now λ octets dotted. omega (arith, length-IsDotted c.args.address.now octets dotted, c.if-address-gt-LONGEST.true))

pub returns-in-Err : goal.returns-in-Err
returns-in-Err c =
    sym (address_in_none c.args.address.now λ octets dotted. c.in-Err.ensures.cases.0 (IsUtf8-IsDotted c.args.address.now octets dotted))
