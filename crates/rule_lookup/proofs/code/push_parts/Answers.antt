-- The code of the setting is added whole, or it is that of none.
use Rattle.std.proofs.Common.{arith, length, ◌<◌}
use Rattle.rule_lookup.proofs.DecodeLemmas.{BeginsNone-name, BeginsNone-value, ReadsOn-parts}
use Rattle.rule_lookup.proofs.code.push_parts.Goals as goal

pub returns-in_default-clause-refused : goal.returns-in_default-clause-refused
returns-in_default-clause-refused c = λ fault _.
    BeginsNone-name c.args.name.items c.args.value.items c.requires.name.0 c.requires.name.1 c.requires.value c.in_default.ensures

pub returns-in_default-own_text-clause-refused : goal.returns-in_default-own_text-clause-refused
returns-in_default-own_text-clause-refused c = λ fault _.
    BeginsNone-value c.args.name.items c.args.value.items c.requires.name.0 c.requires.name.1 c.requires.value c.in_default-own_text.ensures

pub returns-clause-added : goal.returns-clause-added
returns-clause-added c =
    let some : 0 < length c.args.name.items = grind arith in
    let name = c.in-Some.ensures in
    let value = c.in-Some-own_text.ensures in
    rw (c.in_ok-push_owned.ensures.ok, name.1, value.1)
    (ReadsOn-parts c.args.name.items c.args.value.items c.requires.name.0 c.requires.name.1 c.requires.value c.args.settings.now some name.0 value.0)
