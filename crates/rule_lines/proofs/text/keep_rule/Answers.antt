-- What is kept is the address with its colon, the code of the instructions, and a line feed.
use Rattle.std.proofs.Common.{◌≡◌, ℕ, List, ◌<◌, ◌+◌, ◌-◌, ◌++◌, ◌∷◌, [], length, take, drop, sym, ap, ◌∙◌, arith, length-append}
use Rattle.std.proofs.lemmas.List.{length-take-le}
use Rattle.std.proofs.lemmas.Result.{err_from_is_err_and}
use Rattle.rule_lookup.specs.Codes.{code_of}
use Rattle.rule_lookup.specs.Pairs.{address_in}
use Rattle.rule_lookup.specs.Spread.{is_bad_range, spread}
use Rattle.rule_lines.proofs.FaultLemmas.{IsReadLine, Names-line, IsReadLine-added, address_in-cut, front-cut, instructions_in-cut, has_byte-colon}
use Rattle.rule_lines.proofs.KeepLemmas.{IsKeptOf-read}
use Rattle.rule_lines.proofs.text.keep_rule.Goals as goal
use Rattle.rule_lines.proofs.text.keep_rule.Goals.{After-fault_beside_range}

pub returns-in_err-append_code-clause-refused : goal.returns-in_err-append_code-clause-refused
returns-in_err-append_code-clause-refused c =
    let line = c.args.line.now in
    let returned = err_from_is_err_and c.from_residual-in_err-append_code.result c.from_residual-in_err-append_code.ensures.1 in
    let rest = instructions_in-cut line c.args.colon c.requires.first in
    rw (returned.1, returned.2) (Names-line c.args.limit line _ (take (length line - (c.args.colon + 1)) (drop (c.args.colon + 1) line)) c.is_text-is_text.ensures rest _ c.in_err-append_code.ensures.refused)

-- the instructions were read
read : (c : After-fault_beside_range) → IsReadLine c.args.limit c.args.line.now c.extend_from_slice.new.self.items c.append_code.new.code.items
read c =
    let line = c.args.line.now in
    let rest = instructions_in-cut line c.args.colon c.requires.first in
    IsReadLine-added c.args.limit line _ (take (length line - (c.args.colon + 1)) (drop (c.args.colon + 1) line)) c.is_text-is_text.ensures rest c.extend_from_slice.new.self.items c.append_code.new.code.items c.in_ok-append_code.ensures.added

pub returns-in-Some-fault_beside_range-clause-refused : goal.returns-in-Some-fault_beside_range-clause-refused
returns-in-Some-fault_beside_range-clause-refused c =
    (read (goal.at.returns-in-Some-fault_beside_range-clause-refused c).After-fault_beside_range).fault ∙ sym c.in-Some-fault_beside_range.ensures

-- what is kept is as long as the line up to its colon, and the code
added : (limit colon : ℕ) (line front new old : List ℕ) (read : IsReadLine limit line front new) → front ≡ old ++ take (colon + 1) line → old ≡ [] → colon < length line → length new ≡ colon + 1 + length (code_of read.instr)
added limit colon line front new old read front_is empty inside =
    omega (arith, ap length read.code, length-append front (code_of read.instr), ap length front_is, ap length empty, length-append old (take (colon + 1) line), length-take-le (colon + 1) line (omega (arith, inside)))

pub overflow_sub-code_length : goal.overflow_sub-code_length
overflow_sub-code_length c =
    let line = c.args.line.now in
    let rest = instructions_in-cut line c.args.colon c.requires.first in
    let read = IsReadLine-added c.args.limit line _ (take (length line - (c.args.colon + 1)) (drop (c.args.colon + 1) line)) c.is_text-is_text.ensures rest c.extend_from_slice.new.self.items c.append_code.new.code.items c.in_ok-append_code.ensures.added in
    omega (arith, added c.args.limit c.args.colon line c.extend_from_slice.new.self.items c.append_code.new.code.items c.args.kept.now.items read c.in_ok-extend_from_slice.ensures.items c.requires.empty c.requires.inside, c.len.ensures)

pub returns-in-Some-tally_of-clause-faultless : goal.returns-in-Some-tally_of-clause-faultless
returns-in-Some-tally_of-clause-faultless c = (read (goal.at.returns-in-Some-tally_of-clause-faultless c).After-fault_beside_range).fault ∙ sym c.in_default-fault_beside_range.ensures

pub returns-in-Some-tally_of-clause-kept : goal.returns-in-Some-tally_of-clause-kept
returns-in-Some-tally_of-clause-kept c =
    let at = goal.at.returns-in-Some-tally_of-clause-kept c in
    let line = c.args.line.now in
    let cut = address_in-cut line c.args.colon c.requires.first in
    let colon = has_byte-colon line c.args.colon c.requires.inside c.requires.first in
    let front : c.extend_from_slice.new.self.items ≡ address_in line ++ 58 ∷ [] =
    c.in_ok-extend_from_slice.ensures.items ∙ ap (λ old. old ++ take (c.args.colon + 1) line) c.requires.empty ∙ front-cut line c.args.colon c.requires.inside c.requires.first in
    IsKeptOf-read c.args.limit line c.extend_from_slice.new.self.items c.append_code.new.code.items c.extend_from_slice-2.new.self.items c.in-Some.addresses _ c.in-Some-tally_of.tally c.requires.one_line c.requires.rule colon front
    (read at.After-fault_beside_range) c.in_ok-extend_from_slice-2.ensures.items (sym c.in_default-fault_beside_range.ensures)
    (ap is_bad_range (sym cut) ∙ c.in-Some.ensures.0) (c.in-Some.ensures.1 ∙ ap spread cut) c.in-Some-tally_of.ensures.rules c.in-Some-tally_of.ensures.bytes
    (omega (arith, added c.args.limit c.args.colon line c.extend_from_slice.new.self.items c.append_code.new.code.items c.args.kept.now.items (read at.After-fault_beside_range) c.in_ok-extend_from_slice.ensures.items c.requires.empty c.requires.inside, c.len.ensures))
