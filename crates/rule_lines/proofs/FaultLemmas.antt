-- The least kind for which a line is faulty, and its pairs.
use Rattle.std.proofs.Common.{◌≡◌, ℕ, ◌<◌, Bool, true, false, cond, not, nat_lt, is_ok, is_none, Option, None, Some, option_map, option_and_then, Result, Ok, Err, MatchResult, List, [], ◌∷◌, ◌++◌, length, take, drop, get_or, ◌+◌, ◌-◌, ◌==◌, refl, sym, ap, subst, ◌∙◌, arith}
use Rattle.std.proofs.lemmas.Bool.{cond-false, eqb-true, false_from_ne_true, or_right}
use Rattle.std.proofs.lemmas.Option.{none-some}
use Rattle.std.proofs.lemmas.Str.{IsUtf8-from_is_utf8, is_utf8-from_IsUtf8}
use Rattle.std.specs.Str.{is_utf8, IsUtf8}
use Rattle.std.specs.List.{position_or_len}
use Rattle.std.proofs.lemmas.List.{length-map, take_more, take_rest}
use Rattle.std.proofs.lemmas.List.Sums.{passes_at_first}
use Rattle.memchr.specs.Find.{Nowhere, Passes, is_byte}
use Rattle.rule_lines.specs.declared.fault.LineKind.{LineKind}
use Rattle.rule_lines.specs.declared.fault.LineKind.TheVariants.{BadSetting, BadRange, NotText, NulByte, LongLine}
use Rattle.rule_lines.specs.declared.fault.RuleFault.{RuleFault}
use Rattle.rule_lines.specs.declared.fault.RuleFault.TheVariants.{Kind, OutOfMemory}
use Rattle.rule_lookup.specs.declared.instr.Instr.{Instr}
use Rattle.rule_lookup.specs.declared.instr.Verdict.{Verdict}
use Rattle.rule_lines.specs.declared.spread.ReadAddress.{ReadAddress}
use Rattle.rule_lookup.specs.Codes.{code_of}
use Rattle.rule_lines.specs.Faults.{fault_beside, fault_under}
use Rattle.rule_lookup.specs.Lines.{has_byte}
use Rattle.rule_lookup.specs.Pairs.{Rule, address_in, instr_of, instructions_in, is_ignored, pairs_under, settings_after, verdict_of}
use Rattle.rule_lines.specs.RuleFaults.{Names, fault_behind, fault_within}
use Rattle.rule_lookup.specs.Settings.{Assignment}
use Rattle.rule_lookup.specs.Spread.{is_bad_range, spread}
use Rattle.rule_lines.specs.ReadAddresses.{addresses_read}
use Rattle.rule_lookup.proofs.CodeLemmas.{option_map_found}
use Rattle.rule_lookup.proofs.FoundLemmas.{list_any-found, list_any-nowhere}

-- a list that reads as text is UTF-8, and one that does not is none
pub is_utf8-read : {T E : Type 0} (bs : List ℕ) (P : T → Type 0) (Q : E → Type 0) (r : Result T E) → MatchResult r (λ s. P s × IsUtf8 bs) (λ e. ¬ (IsUtf8 bs) × Q e) → is_ok r ≡ is_utf8 bs
is_utf8-read bs P Q (Ok s) text = sym (is_utf8-from_IsUtf8 bs text.1)
is_utf8-read bs P Q (Err e) other = sym (false_from_ne_true _ (λ text. other.0 (IsUtf8-from_is_utf8 bs text)))

-- a line that is faulty for its length alone, or not
pub fault_beside-text : (limit : ℕ) (line : List ℕ) → is_bad_range (address_in line) ≡ false → is_utf8 line ≡ true → has_byte 0 line ≡ false → fault_beside limit line ≡ cond (nat_lt limit (length line)) (Some LongLine) None
fault_beside-text limit line range text clean =
    cond-false (is_bad_range (address_in line)) _ _ range ∙ cond-false (not (is_utf8 line)) _ _ (ap not text) ∙ cond-false (has_byte 0 line) _ _ clean

-- a line whose instructions were read: only the kinds from the third on are left
pub record IsReadLine (limit : ℕ) (line old new : List ℕ) : Type 0 where
  pub instr : Instr
  pub is : instr_of (is_utf8 line) (instructions_in line) ≡ Some instr
  pub code : new ≡ old ++ code_of instr
  pub fault : fault_under limit line (verdict_of (instructions_in line)) ≡ fault_beside limit line

-- a fault within the instructions of a line is that of the line
Names-verdict : (limit : ℕ) (line : List ℕ) (verdict : Option Verdict) (fault : RuleFault) → Names (fault_behind (is_utf8 line) (instructions_in line) verdict) fault → Names (fault_under limit line verdict) fault
Names-verdict limit line verdict OutOfMemory named = tt
Names-verdict limit line None (Kind kind) named = named
Names-verdict limit line (Some verdict) (Kind kind) named = behind (is_none (settings_after (is_utf8 line) verdict (instructions_in line))) named
  where
    behind : (bad : Bool) → ◌≡◌ {A = Option LineKind} (cond bad (Some BadSetting) None) (Some kind) → ◌≡◌ {A = Option LineKind} (cond bad (Some BadSetting) (fault_beside limit line)) (Some kind)
    behind true named = named
    behind false named = absurd cc

-- a line whose instruction was read has none of the first two kinds
fault_under-read : (limit : ℕ) (line : List ℕ) (verdict : Option Verdict) (instr : Instr) → option_and_then (λ v. option_map (λ settings. let read : Instr = record { verdict = v; settings = settings } in read) (settings_after (is_utf8 line) v (instructions_in line))) verdict ≡ Some instr → fault_under limit line verdict ≡ fault_beside limit line
fault_under-read limit line None instr is = absurd (none-some instr is)
fault_under-read limit line (Some v) instr is = behind (settings_after (is_utf8 line) v (instructions_in line)) is
  where
    behind : (settings : Option (List Assignment)) → option_map (λ settings. let read : Instr = record { verdict = v; settings = settings } in read) settings ≡ Some instr → ◌≡◌ {A = Option LineKind} (cond (is_none settings) (Some BadSetting) (fault_beside limit line)) (fault_beside limit line)
    behind None is = absurd (none-some instr is)
    behind (Some settings) is = refl

module _ (limit : ℕ) (line : List ℕ) (is_text : Bool) (instructions : List ℕ) (text : is_text ≡ is_utf8 line) (rest : instructions ≡ instructions_in line) where
  -- instructions that can't be read are what the line is named for
  pub Names-line : (fault : RuleFault) → Names (fault_within is_text instructions) fault → Names (fault_under limit line (verdict_of (instructions_in line))) fault
  Names-line fault named =
      Names-verdict limit line (verdict_of (instructions_in line)) fault
      (subst (λ t. Names (fault_within t (instructions_in line)) fault) text (subst (λ i. Names (fault_within is_text i) fault) rest named))

  -- instructions that can be read
  pub IsReadLine-added : (old new : List ℕ) → option_map (λ (instr : Instr). old ++ code_of instr) (instr_of is_text instructions) ≡ Some new → IsReadLine limit line old new
  IsReadLine-added old new added =
      let here = subst (λ t. option_map (λ (instr : Instr). old ++ code_of instr) (instr_of t (instructions_in line)) ≡ Some new) text (subst (λ i. option_map (λ (instr : Instr). old ++ code_of instr) (instr_of is_text i) ≡ Some new) rest added) in
      let found = option_map_found (λ (instr : Instr). old ++ code_of instr) (instr_of (is_utf8 line) (instructions_in line)) new here in
      record {
        instr = found.0;
        is = found.1;
        code = sym found.2;
        fault = fault_under-read limit line (verdict_of (instructions_in line)) found.0 found.1;
      }

-- where no test names a kind, the line is text without a zero byte
none-parts : (range text nul long : Bool) → ◌≡◌ {A = Option LineKind} (cond range (Some BadRange) (cond (not text) (Some NotText) (cond nul (Some NulByte) (cond long (Some LongLine) None)))) None → (text ≡ true) × (nul ≡ false)
none-parts true text nul long none = absurd cc
none-parts false false nul long none = absurd cc
none-parts false true true long none = absurd cc
none-parts false true false long none = (refl, refl)

-- a line without a fault of these kinds is text without a zero byte
pub fault_beside-none : (limit : ℕ) (line : List ℕ) → fault_beside limit line ≡ None → (is_utf8 line ≡ true) × (has_byte 0 line ≡ false)
fault_beside-none limit line none = none-parts (is_bad_range (address_in line)) (is_utf8 line) (has_byte 0 line) (nat_lt limit (length line)) none

-- a line has as many rules as addresses
pub count-read : (line : List ℕ) (instr : Instr) (addresses : ReadAddress) (address : List ℕ) → instr_of (is_utf8 line) (instructions_in line) ≡ Some instr → addresses_read addresses ≡ spread address → address ≡ address_in line → length (addresses_read addresses) ≡ length (pairs_under (instr_of (is_utf8 line) (instructions_in line)) (address_in line))
count-read line instr addresses address is spread_is address_is =
    ap length (spread_is ∙ ap spread address_is)
    ∙ sym (length-map (spread (address_in line)) (λ (a : List ℕ). let rule : Rule = record { address = a; instr = instr } in rule))
    ∙ ap (λ o. length (pairs_under o (address_in line))) (sym is)

-- what stands before the first colon of a line
pub address_in-cut : (line : List ℕ) (colon : ℕ) → colon ≡ position_or_len (λ b. b == 58) line → take colon line ≡ address_in line
address_in-cut line colon first = ap (λ n. take n line) first

-- what stands after it
pub instructions_in-cut : (line : List ℕ) (colon : ℕ) → colon ≡ position_or_len (λ b. b == 58) line → take (length line - (colon + 1)) (drop (colon + 1) line) ≡ instructions_in line
instructions_in-cut line colon first = take_rest line (colon + 1) ∙ ap (λ n. drop (n + 1) line) first

-- and what goes up to it
pub front-cut : (line : List ℕ) (colon : ℕ) → colon < length line → colon ≡ position_or_len (λ b. b == 58) line → take (colon + 1) line ≡ address_in line ++ 58 ∷ []
front-cut line colon inside first =
    let here : get_or line colon 0 ≡ 58 = eqb-true (get_or line colon 0) 58 (ap (λ n. get_or line n 0 == 58) first ∙ passes_at_first (λ b. b == 58) line 0 (omega (arith, first))) in
    take_more line colon 0 inside ∙ (λ i. address_in-cut line colon first i ++ here i ∷ [])

-- a colon that stands within a line is among its bytes
pub has_byte-colon : (line : List ℕ) (colon : ℕ) → colon < length line → colon ≡ position_or_len (λ b. b == 58) line → has_byte 58 line ≡ true
has_byte-colon line colon inside first =
    list_any-found (λ b. b == 58) line colon inside (ap (λ n. get_or line n 0 == 58) first ∙ passes_at_first (λ b. b == 58) line 0 (omega (arith, first)))

-- a line without a colon is ignored
pub is_ignored-nowhere : (line : List ℕ) → Nowhere (Passes (is_byte 58) line) 0 (length line) → is_ignored line ≡ true
is_ignored-nowhere [] none = refl
is_ignored-nowhere (b ∷ bs) none = or_right (b == 35) (not (has_byte 58 (b ∷ bs))) (ap not (list_any-nowhere (is_byte 58) (b ∷ bs) none))
