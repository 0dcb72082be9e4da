-- The lines that a list keeps, one for each rule line of its text: the address as it stands there, a colon, and the code of the instruction.
use Rattle.std.specs.Prelude.{◌≡◌, ℕ, ◌+◌, ◌-◌, ◌<◌, ◌≤◌, Bool, true, false, is_some, List, [], ◌++◌, length, drop, get_or, slice_get, decimal, Option, Some, None, unwrap_or, flat_map}
use Rattle.std.specs.List.{AllByRecursion}
use Rattle.rule_lookup.specs.declared.instr.Instr.{Instr}
use Rattle.rule_lookup.specs.declared.instr.Verdict.TheVariants.{Allow}
use Rattle.rule_lines.specs.declared.kept.FoundRule.{FoundRule}
use Rattle.rule_lines.specs.declared.kept.KeptLine.{KeptLine}
use Rattle.rule_lines.specs.declared.kept.LinePosition.{LinePosition}
use Rattle.rule_lines.specs.declared.kept.Tally.{Tally}
use Rattle.rule_lines.specs.declared.open_range.OpenRange.{OpenRange}
use Rattle.rule_lookup.specs.Codes.{code_of, decoded}
use Rattle.rule_lookup.specs.Lines.{Line, has_byte, lines_of}
use Rattle.rule_lookup.specs.Pairs.{Rule, address_in, instructions_in, pairs_in, pairs_of, pairs_with}
use Rattle.rule_lines.specs.ReadAddresses.{addresses_read}
use Rattle.rule_lines.specs.Rows.{stored_length}
use Rattle.rule_lookup.specs.Spread.{is_bad_range, spread}
use Rattle.rule_lines.specs.Texts.{AreOfText}

-- the instruction of a code
abbrev pub the_instr : List ℕ → Instr
the_instr code = unwrap_or (decoded code) (record { verdict = Allow; settings = [] })

-- the rules of a kept line: what stands behind its colon is a code
abbrev pub rules_at : List ℕ → List Rule
rules_at line = pairs_with (the_instr (instructions_in line)) (spread (address_in line))

-- the rules of kept lines
abbrev pub rules_in : List ℕ → List Rule
rules_in kept = flat_map (λ (line : Line). rules_at line.bytes) (lines_of kept)

-- a line that may be kept
pub record IsKeptLine (line : List ℕ) : Type 0 where
  pub colon : has_byte 58 line ≡ true
  pub range : is_bad_range (address_in line) ≡ false
  pub decodes : is_some (decoded (instructions_in line)) ≡ true

-- all lines are kept ones, and a line feed ends each of them
abbrev pub AreKept : List ℕ → Type 0
AreKept kept = AllByRecursion (λ (line : Line). (line.ended ≡ true) × IsKeptLine line.bytes) (lines_of kept)

-- there are so many rules, and so long are they where they are stored
pub record Tallies (rules : List Rule) (tally : Tally) : Type 0 where
  pub counted : tally.rules ≡ length rules
  pub measured : tally.bytes ≡ stored_length rules

-- what is kept of a trimmed line: the rules that it has, and no more bytes
pub record IsKeptOf (line kept : List ℕ) (tally : Tally) : Type 0 where
  pub lines : AreKept kept
  pub rules : rules_in kept ≡ pairs_in line
  pub tallied : Tallies (pairs_in line) tally
  pub short : length kept ≤ length line

-- what is kept of a text: its rules
pub record IsKept (text kept : List ℕ) (tally : Tally) : Type 0 where
  pub lines : AreKept kept
  pub rules : rules_in kept ≡ pairs_of text
  pub tallied : Tallies (pairs_of text) tally

-- the rules of a line that was read
abbrev pub rules_under : KeptLine → List Rule
rules_under line = pairs_with (the_instr line.code.now) (addresses_read line.addresses)

-- how many there are
abbrev pub rule_count : KeptLine → ℕ
rule_count line = length (addresses_read line.addresses)

-- the rule at a position of it
abbrev pub rule_of_line : KeptLine → ℕ → Rule
rule_of_line line position = record { address = get_or (addresses_read line.addresses) position []; instr = the_instr line.code.now }

-- a line begins there, behind so many rules
pub record IsLineAt (kept : List ℕ) (line : LinePosition) : Type 0 where
  pub start_in : line.start ≤ length kept
  pub before_in : line.before ≤ length (rules_in kept)
  pub rest : rules_in (drop line.start kept) ≡ drop line.before (rules_in kept)
  pub lines : AreKept (drop line.start kept)

-- the rule at position i was found, and a line from which the next one is found
pub record IsFound (kept : List ℕ) (i : ℕ) (found : FoundRule) : Type 0 where
  pub rule : slice_get (rules_in kept) i ≡ Some (rule_of_line found.line found.position)
  pub position : found.position < rule_count found.line
  pub position_by : found.position ≤ i
  pub others : (n : ℕ) → n < rule_count found.line → slice_get (rules_in kept) (i - found.position + n) ≡ Some (rule_of_line found.line n)
  pub decodes : is_some (decoded found.line.code.now) ≡ true
  pub resume : IsLineAt kept found.resume
  pub resume_by : found.resume.before ≤ i + 1

-- the rule with the address at a position of an open range
abbrev pub rule_of_range : OpenRange → ℕ → Rule
rule_of_range range position =
    record { address = range.front.items ++ decimal (range.numbers.first + position) ++ range.back.items; instr = the_instr range.code.items }

-- its rules stand among those of kept lines
pub record IsOpenAmong (kept : List ℕ) (range : OpenRange) : Type 0 where
  pub rules : (position : ℕ) → position < range.numbers.count → slice_get (rules_in kept) (range.before + position) ≡ Some (rule_of_range range position)
  pub decodes : 0 < range.numbers.count → is_some (decoded range.code.items) ≡ true

-- kept lines, the tally of their rules, which are those of an accepted text, one of the lines, and an open range
pub record Keeps (kept : List ℕ) (tally : Tally) (near : LinePosition) (range : OpenRange) : Type 0 where
  pub tallied : Tallies (rules_in kept) tally
  pub lines : AreKept kept
  pub near_is : IsLineAt kept near
  pub range_is : IsOpenAmong kept range
  pub of_text : AreOfText (rules_in kept)

-- a rule as it is stored, or none
abbrev pub IsStored : Option Rule → Bool → List ℕ → List ℕ → Type 0
IsStored None found key code = found ≡ false
IsStored (Some rule) found key code = (found ≡ true) × (key ≡ rule.address) × (code ≡ code_of rule.instr)
