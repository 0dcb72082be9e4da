-- A kept line is cut at its first colon.
use Rattle.std.proofs.Common.{◌≡◌, ◌∙◌, ◌==◌, is_some, sym, ap}
use Rattle.std.specs.List.{position_or_len}
use Rattle.std.proofs.lemmas.Bool.{false≢true}
use Rattle.memchr.specs.Find.{is_byte}
use Rattle.rule_lookup.specs.Codes.{decoded}
use Rattle.rule_lines.specs.Kept.{the_instr}
use Rattle.rule_lookup.specs.Pairs.{pairs_with}
use Rattle.rule_lookup.specs.Spread.{is_bad_range, spread}
use Rattle.rule_lines.proofs.FaultLemmas.{address_in-cut, instructions_in-cut}
use Rattle.rule_lookup.proofs.FoundLemmas.{list_any-nowhere, position_or_len-found}
use Rattle.rule_lines.proofs.kept.read_kept.Goals as goal
use Rattle.rule_lines.proofs.kept.read_kept.Goals.{After-read_address}

pub unreachable-requires : goal.unreachable-requires
unreachable-requires c = false≢true (sym (list_any-nowhere (is_byte 58) c.args.line.now c.in_default.ensures) ∙ c.requires.colon)

first : (c : After-read_address) → c.in-Some.colon ≡ position_or_len (λ b. b == 58) c.args.line.now
first c = sym (position_or_len-found (λ b. b == 58) c.args.line.now c.in-Some.colon c.in-Some.ensures)

pub unreachable-requires-in-None : goal.unreachable-requires-in-None
unreachable-requires-in-None c =
    let line = c.args.line.now in
    let at = first (goal.at.unreachable-requires-in-None c).After-read_address in
    false≢true (sym c.requires.range ∙ ap is_bad_range (sym (address_in-cut line c.in-Some.colon at)) ∙ c.in-None.ensures)

pub returns-clause-rules : goal.returns-clause-rules
returns-clause-rules c =
    let line = c.args.line.now in
    let at = first (goal.at.returns-clause-rules c).After-read_address in
    let addresses = c.in-Some-read_address.ensures.1 ∙ ap spread (address_in-cut line c.in-Some.colon at) in
    let code = instructions_in-cut line c.in-Some.colon at in
    λ i. pairs_with (the_instr (code i)) (addresses i)

pub returns-clause-decodes : goal.returns-clause-decodes
returns-clause-decodes c =
    let at = first (goal.at.returns-clause-decodes c).After-read_address in
    ap (λ code. is_some (decoded code)) (instructions_in-cut c.args.line.now c.in-Some.colon at) ∙ c.requires.decodes
