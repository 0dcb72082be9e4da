use Rattle.std.proofs.Common.{◌≡◌, ℕ, List, take}
use Rattle.rule_lines.specs.ReadAddresses.{addresses_read}
use Rattle.rule_warnings.specs.Tables.{line_under, noted_all}
use Rattle.rule_warnings.proofs.findings.note_each.Given as goal

-- the addresses so far are noted
abbrev pub invariant-loop-position : goal.invariant-loop-position
invariant-loop-position l =
    (other : List ℕ) → line_under l.seen other ≡ noted_all (line_under l.initial.seen) (take l.position (addresses_read l.addresses)) l.number other
