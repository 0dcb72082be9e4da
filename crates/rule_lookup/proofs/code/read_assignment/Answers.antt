-- The name and the value are those around the first `=`.
use Rattle.std.proofs.Common.{Some, sym, ◌∙◌, arith, length, ◌<◌}
use Rattle.rule_lookup.specs.Settings.{Assignment}
use Rattle.rule_lookup.proofs.DecodeLemmas.{setting_in-known, setting_in-name, setting_in-value}
use Rattle.rule_lookup.proofs.code.read_assignment.Goals as goal

pub returns-in_err-read_text : goal.returns-in_err-read_text
returns-in_err-read_text c =
    let parts = c.in_ok-name.ensures in
    rw c.from_residual-in_err-read_text.ensures (setting_in-name _ _ _ c.requires parts.0 parts.1 c.in_err-read_text.ensures)

pub returns-in_err-read_text-2 : goal.returns-in_err-read_text-2
returns-in_err-read_text-2 c =
    let parts = c.in_ok-name.ensures in
    rw c.from_residual-in_err-read_text-2.ensures (setting_in-value _ _ _ c.requires parts.0 parts.1 c.in_err-read_text-2.ensures)

pub returns : goal.returns
returns c =
    let parts = c.in_ok-name.ensures in
    let name = c.in_ok-read_text.ensures in
    let value = c.in_ok-read_text-2.ensures in
    let some : 0 < length c.in_ok-name.name.now = grind arith in
    setting_in-known _ _ _ c.requires parts.0 parts.1 some name.0 value.0
    ∙ (λ i. let setting : Assignment = record { name = sym name.1 i; value = sym value.1 i } in Some setting)
