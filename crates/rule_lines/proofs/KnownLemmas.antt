-- The rules of a text without a fault, and those of a list: each instruction sets what may be set.
use Rattle.std.proofs.Common.{◌≡◌, ◌≤◌, ℕ, suc, ◌+◌, Bool, true, false, cond, is_none, is_some, nat_lt, Option, None, Some, List, [], ◌∷◌, ◌++◌, length, unwrap_or, refl, sym, ap, subst, ◌∙◌, arith}
use Rattle.std.proofs.lemmas.Bool.{lt-leb, not-false, or_parts}
use Rattle.std.proofs.Props.{props}
use mathlib.Core.Logic.{∥∥₁_elim}
use Rattle.std.specs.List.{AllByRecursion, AllByRecursion-prop, flat_map}
use Rattle.std.specs.Prelude.{IsTrue}
use Rattle.std.specs.Str.{is_utf8}
use Rattle.rule_lines.specs.declared.fault.LineKind.{LineKind}
use Rattle.rule_lines.specs.declared.fault.LineKind.TheVariants.{BadSetting, LongText}
use Rattle.rule_lines.specs.declared.fault.LineFault.{LineFault}
use Rattle.rule_lookup.specs.declared.instr.Instr.{Instr}
use Rattle.rule_lookup.specs.declared.instr.Verdict.{Verdict}
use Rattle.rule_lookup.specs.declared.instr.Verdict.TheVariants.{Allow}
use Rattle.rule_lines.specs.declared.limits.Limits.{Limits}
use Rattle.rule_lookup.specs.Codes.{IsInstr, decoded}
use Rattle.rule_lines.specs.Faults.{IsAccepted, fault_beside, fault_in, fault_under, first_faulty, or_later}
use Rattle.rule_lines.specs.Kept.{AreKept, IsKeptLine, rules_at, rules_in, the_instr}
use Rattle.rule_lookup.specs.Lines.{Line, has_byte, lines_of, trimmed}
use Rattle.rule_lookup.specs.Pairs.{Rule, address_in, instr_of, instructions_in, is_ignored, pairs_in, pairs_of, pairs_under, pairs_with, settings_after, verdict_of}
use Rattle.rule_lookup.specs.Codes.{AreRules}
use Rattle.rule_lookup.specs.Settings.{is_setting}
use Rattle.rule_lookup.specs.Spread.{spread}
use Rattle.rule_lines.specs.Texts.{AcceptedText, AreOfText}
use Rattle.rule_lookup.proofs.CodeLemmas.{IsInstr-decoded}
use Rattle.rule_lines.proofs.FaultLemmas.{fault_beside-none}
use Rattle.rule_lines.proofs.SettingLemmas.{IsInstr-instr_of}

-- rules after rules
AreRules-append : (rules more : List Rule) → AreRules rules → AreRules more → AreRules (rules ++ more)
AreRules-append [] more known known' = known'
AreRules-append (rule ∷ rules) more known known' = (known.0, AreRules-append rules more known.1 known')

-- one instruction under many addresses
AreRules-pairs_with : (instr : Instr) (addresses : List (List ℕ)) → IsInstr instr → AreRules (pairs_with instr addresses)
AreRules-pairs_with instr [] known = tt
AreRules-pairs_with instr (address ∷ addresses) known = (known, AreRules-pairs_with instr addresses known)

-- a rule line without a fault has none of the kinds from the third on
pub fault_under-none : (limit : ℕ) (line : List ℕ) (verdict : Option Verdict) → fault_under limit line verdict ≡ None → fault_beside limit line ≡ None
fault_under-none limit line None none = absurd cc
fault_under-none limit line (Some verdict) none = settled (is_none (settings_after (is_utf8 line) verdict (instructions_in line))) none
  where
    settled : (bad : Bool) → ◌≡◌ {A = Option LineKind} (cond bad (Some BadSetting) (fault_beside limit line)) None → fault_beside limit line ≡ None
    settled true none = absurd cc
    settled false none = none

-- a line that is not ignored has a colon
pub has_byte-rule : (line : List ℕ) → is_ignored line ≡ false → has_byte 58 line ≡ true
has_byte-rule [] rule = absurd cc
has_byte-rule (b ∷ bs) rule = not-false _ (or_parts _ _ rule).1

-- the pairs of a rule line that is text without a zero byte
AreRules-under : (line : List ℕ) → is_utf8 line ≡ true → has_byte 0 line ≡ false → has_byte 58 line ≡ true → (instr : Option Instr) → instr_of (is_utf8 line) (instructions_in line) ≡ instr → AreRules (pairs_under instr (address_in line))
AreRules-under line text clean colon None is = tt
AreRules-under line text clean colon (Some instr) is =
    AreRules-pairs_with instr (spread (address_in line)) (IsInstr-instr_of line instr text clean colon (ap (λ t. instr_of t (instructions_in line)) (sym text) ∙ is))

-- a line without a fault
AreRules-line : (limit : ℕ) (line : List ℕ) (ignored : Bool) → is_ignored line ≡ ignored → ◌≡◌ {A = Option LineKind} (cond ignored None (fault_under limit line (verdict_of (instructions_in line)))) None → AreRules (cond ignored [] (pairs_under (instr_of (is_utf8 line) (instructions_in line)) (address_in line)))
AreRules-line limit line true is none = tt
AreRules-line limit line false is none =
    let text = fault_beside-none limit line (fault_under-none limit line (verdict_of (instructions_in line)) none) in
    AreRules-under line text.0 text.1 (has_byte-rule line is) (instr_of (is_utf8 line) (instructions_in line)) refl

-- lines without a fault
AreRules-lines : (limit n : ℕ) (lines : List Line) → first_faulty limit n lines ≡ None → AreRules (flat_map (λ (line : Line). pairs_in (trimmed line.bytes)) lines)
AreRules-lines limit n [] none = tt
AreRules-lines limit n (line ∷ lines) none =
    let parts = neither (fault_in limit (trimmed line.bytes)) none in
    AreRules-append (pairs_in (trimmed line.bytes)) _ (AreRules-line limit (trimmed line.bytes) (is_ignored (trimmed line.bytes)) refl parts.0) (AreRules-lines limit (n + 1) lines parts.1)
  where
    neither : (fault : Option LineKind) → or_later n fault (first_faulty limit (n + 1) lines) ≡ None → (fault ≡ None) × (first_faulty limit (n + 1) lines ≡ None)
    neither None none = (refl, none)
    neither (Some kind) none = absurd cc

-- the rules of an accepted text
pub AreRules-accepted : (limits : Limits) (text : List ℕ) → IsAccepted limits text → AreRules (pairs_of text)
AreRules-accepted limits text accepted =
    AreRules-lines limits.line 1 (lines_of text) (within (nat_lt limits.text (length text)) accepted)
  where
    within : (long : Bool) → ◌≡◌ {A = Option LineFault} (cond long (Some (record { line = 0; kind = LongText })) (first_faulty limits.line 1 (lines_of text))) None → first_faulty limits.line 1 (lines_of text) ≡ None
    within true none = absurd cc
    within false none = none

-- a text within the limit without a faulty line is accepted
pub accepted_from : (limits : Limits) (text : List ℕ) → length text ≤ limits.text → first_faulty limits.line 1 (lines_of text) ≡ None → IsAccepted limits text
accepted_from limits text short none =
    ap (λ (long : Bool). cond long (Some (record { line = 0; kind = LongText })) (first_faulty limits.line 1 (lines_of text))) (lt-leb (suc limits.text) (length text) (omega (arith, short))) ∙ none

-- rules are rules in one way
AreRules-prop : (rules : List Rule) → IsProp (AreRules rules)
AreRules-prop rules =
    AllByRecursion-prop (λ (rule : Rule). IsInstr rule.instr) (λ rule. AllByRecursion-prop (λ setting. IsTrue (is_setting setting)) (λ setting. hlevel props) rule.instr.settings) rules

-- the rules of some accepted text
pub AreRules-of_text : (rules : List Rule) → AreOfText rules → AreRules rules
AreRules-of_text rules of_text =
    ∥∥₁_elim of_text (AreRules-prop rules) (λ (t : AcceptedText rules). subst AreRules t.says (AreRules-accepted t.limits t.text t.accepted))

-- the instruction of a code
IsInstr-unwrap_or : (bytes : List ℕ) (instr : Option Instr) (other : Instr) → decoded bytes ≡ instr → is_some instr ≡ true → IsInstr (unwrap_or instr other)
IsInstr-unwrap_or bytes (Some instr) other is some = IsInstr-decoded bytes instr is
IsInstr-unwrap_or bytes None other is some = absurd cc

-- the rules of kept lines
AreRules-kept_lines : (lines : List Line) → AllByRecursion (λ (line : Line). (line.ended ≡ true) × IsKeptLine line.bytes) lines → AreRules (flat_map (λ (line : Line). rules_at line.bytes) lines)
AreRules-kept_lines [] are = tt
AreRules-kept_lines (line ∷ lines) are =
    let code = instructions_in line.bytes in
    let known : IsInstr (the_instr code) = IsInstr-unwrap_or code (decoded code) (record { verdict = Allow; settings = [] }) refl are.0.1.decodes in
    AreRules-append (rules_at line.bytes) _ (AreRules-pairs_with (the_instr code) (spread (address_in line.bytes)) known) (AreRules-kept_lines lines are.1)

pub AreRules-kept : (kept : List ℕ) → AreKept kept → AreRules (rules_in kept)
AreRules-kept kept are = AreRules-kept_lines (lines_of kept) are
