use Rattle.std.proofs.Common.{◌≡◌, ◌++◌, map, take, string_bytes}
use Rattle.rule_lookup.specs.Spread.{folded}
use Rattle.rule_lookup.specs.Forms.{dotted_fronts}
use Rattle.rule_lookup.proofs.form.push_fronts.Given as goal

-- the forms so far and those to come are all
abbrev pub invariant-loop-i : goal.invariant-loop-i
invariant-loop-i l =
    map string_bytes l.forms.items ++ map folded (dotted_fronts (take l.i l.ip))
    ≡ map string_bytes l.initial.forms.items ++ map folded (dotted_fronts l.ip)
