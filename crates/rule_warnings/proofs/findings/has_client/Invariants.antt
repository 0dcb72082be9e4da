use Rattle.std.proofs.Common.{◌≡◌, false, take}
use Rattle.std.specs.List.{list_any}
use Rattle.rule_lines.specs.ReadAddresses.{addresses_read}
use Rattle.rule_warnings.specs.Clients.{is_form}
use Rattle.rule_warnings.proofs.findings.has_client.Given as goal

abbrev pub invariant-loop-position : goal.invariant-loop-position
invariant-loop-position l = list_any is_form (take l.position (addresses_read l.addresses)) ≡ false
