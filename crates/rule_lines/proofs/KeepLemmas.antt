-- What is kept of a line, and of a text line by line.
use Rattle.std.proofs.Common.{◌≡◌, ℕ, suc, ◌+◌, ◌-◌, ◌<◌, ◌≤◌, ◌==◌, ◌&&◌, Bool, true, false, cond, not, eqb, is_some, None, Some, List, [], ◌∷◌, ◌++◌, length, take, drop, unwrap_or, flat_map, inl, inr, refl, sym, ap, subst, ◌∙◌, arith, append_assoc, length-append, length-drop, drop-drop}
use Rattle.std.specs.List.{AllByRecursion, position_or_len, before_first}
use Rattle.std.specs.Str.{is_utf8}
use Rattle.std.proofs.lemmas.Bool.{cases_Bool, cond-false, or_from, or_right}
use Rattle.std.proofs.lemmas.List.{append-nil, drop_all, take_rest}
use Rattle.std.proofs.lemmas.List.Folds.{list_any-append}
use Rattle.rule_lines.specs.declared.fault.LineKind.{LineKind}
use Rattle.rule_lookup.specs.declared.instr.Verdict.TheVariants.{Allow}
use Rattle.rule_lines.specs.declared.kept.Tally.{Tally}
use Rattle.rule_lines.specs.declared.spread.ReadAddress.{ReadAddress}
use Rattle.rule_lookup.specs.Codes.{code_of, decoded}
use Rattle.rule_lines.specs.Faults.{fault_beside, fault_in, first_faulty, or_later}
use Rattle.rule_lines.specs.Kept.{AreKept, IsKept, IsKeptLine, IsKeptOf, Tallies, rules_at, rules_in, the_instr}
use Rattle.rule_lookup.specs.Lines.{IsCutAtFeed, IsFirstLine, Line, has_byte, is_blank, lines_of, trimmed}
use Rattle.rule_lookup.specs.Pairs.{address_in, instr_of, instructions_in, is_ignored, pairs_in, pairs_of, pairs_under, pairs_with, rule_pairs}
use Rattle.rule_lines.specs.ReadAddresses.{addresses_read}
use Rattle.rule_lines.specs.Rows.{length_with, stored_length}
use Rattle.rule_lines.specs.RuleFaults.{IsPlain}
use Rattle.rule_lookup.specs.Spread.{is_bad_range, spread}
use Rattle.rule_lines.proofs.CodeBytes.{IsOneLine, IsOneLine-append, IsOneLine-drop, IsOneLine-take, code_of-read}
use Rattle.rule_lookup.proofs.CodeLemmas.{after_first-stop, around_first, before_first-stop, decoded-code_of, pieces_of-stop}
use Rattle.rule_lines.proofs.FaultLemmas.{IsReadLine, count-read, fault_beside-none}
use Rattle.rule_lines.proofs.KeptLemmas.{AreKept-append, rules_in-append}
use Rattle.rule_lines.proofs.PlainLemmas.{IsPlain-cut}
use Rattle.rule_lines.proofs.SettingLemmas.{IsInstr-instr_of}
use Rattle.rule_lines.proofs.TallyLemmas.{Tallies-append, stored_length-pairs_with}

-- ---- one line

-- what stands before the first position of a byte does not have it
has_byte-before_first : (b : ℕ) (bytes : List ℕ) → has_byte b (before_first (λ x. x == b) bytes) ≡ false
has_byte-before_first b [] = refl
has_byte-before_first b (x ∷ xs) =
    elim (cases_Bool (eqb x b)) [
      | inl here ↦ ap (λ t. has_byte b (take (cond (not t) (1 + position_or_len (λ y. y == b) xs) 0) (x ∷ xs))) here
      | inr other ↦
          ap (λ t. has_byte b (take (cond (not t) (1 + position_or_len (λ y. y == b) xs) 0) (x ∷ xs))) other
          ∙ ap (λ n. has_byte b (take n (x ∷ xs))) (let next : 1 + position_or_len (λ y. y == b) xs ≡ suc (position_or_len (λ y. y == b) xs) = omega arith in next)
          ∙ or_from (eqb x b) (has_byte b (before_first (λ y. y == b) xs)) other (has_byte-before_first b xs)
    ]

-- a line without blanks at its end has no more bytes, and no line feed where it had none
trimmed-if : (b : ℕ) (bs rest : List ℕ) (blank : Bool) → IsOneLine (b ∷ bs) → IsOneLine rest × (length rest ≤ length bs) → IsOneLine (cond blank [] (b ∷ rest)) × (length (cond blank [] (b ∷ rest)) ≤ length (b ∷ bs))
trimmed-if b bs rest true clean shorter = (refl, omega arith)
trimmed-if b bs rest false clean shorter =
    let first = IsOneLine-take 1 (b ∷ bs) clean in
    (IsOneLine-append (b ∷ []) rest first shorter.0, omega (arith, shorter.1))

pub trimmed-part : (line : List ℕ) → IsOneLine line → IsOneLine (trimmed line) × (length (trimmed line) ≤ length line)
trimmed-part [] clean = (refl, omega arith)
trimmed-part (b ∷ bs) clean =
    trimmed-if b bs (trimmed bs) (is_blank b && (length (trimmed bs) == 0)) clean (trimmed-part bs (IsOneLine-drop 1 (b ∷ bs) clean))

-- nothing is kept of a line that is ignored
pub IsKeptOf-none : (line kept : List ℕ) (tally : Tally) → tally.rules ≡ 0 → tally.bytes ≡ 0 → kept ≡ [] → is_ignored line ≡ true → IsKeptOf line kept tally
IsKeptOf-none line kept tally no_rules no_bytes empty ignored =
    let none : pairs_in line ≡ [] = ap (λ t. cond t [] (rule_pairs line)) ignored in
    record {
      lines = subst AreKept (sym empty) tt;
      rules = ap rules_in empty ∙ sym none;
      tallied = record { counted = no_rules ∙ sym (ap length none); measured = no_bytes ∙ sym (ap stored_length none) };
      short = omega (arith, ap length empty);
    }

-- a rule line without a fault, and the code of its instruction behind its colon
module _ (limit : ℕ) (line front new all : List ℕ) (addresses : ReadAddress) (code_length : ℕ) (tally : Tally) (one_line : IsOneLine line) (rule : is_ignored line ≡ false) (colon : has_byte 58 line ≡ true)
    (front_is : front ≡ address_in line ++ 58 ∷ []) (read : IsReadLine limit line front new) (all_is : all ≡ new ++ 10 ∷ []) (none : fault_beside limit line ≡ None)
    (good : is_bad_range (address_in line) ≡ false) (spread_is : addresses_read addresses ≡ spread (address_in line)) (counted : tally.rules ≡ length (addresses_read addresses)) (measured : tally.bytes ≡ length_with code_length (addresses_read addresses))
    (code_is_long : code_length ≡ length (code_of read.instr)) where
  abbrev address : List ℕ
  address = address_in line

  abbrev code : List ℕ
  code = code_of read.instr

  abbrev kept_line : List ℕ
  kept_line = address ++ 58 ∷ code

  whole : all ≡ kept_line ++ 10 ∷ []
  whole = all_is ∙ ap (λ xs. xs ++ 10 ∷ []) (read.code ∙ ap (λ xs. xs ++ code) front_is ∙ append_assoc address (58 ∷ []) code)

  decodes : decoded code ≡ Some read.instr
  decodes =
      let text = fault_beside-none limit line none in
      decoded-code_of read.instr (IsInstr-instr_of line read.instr text.0 text.1 colon (ap (λ t. instr_of t (instructions_in line)) (sym text.0) ∙ read.is))

  part : IsOneLine code × (length code + 2 ≤ length (instructions_in line))
  part = code_of-read (is_utf8 line) (instructions_in line) read.instr (IsOneLine-drop (position_or_len (λ b. b == 58) line + 1) line one_line) read.is

  lines_are : lines_of all ≡ record { bytes = kept_line; ended = true } ∷ []
  lines_are =
      ap lines_of whole
      ∙ pieces_of-stop 10 kept_line [] (IsOneLine-append address (58 ∷ code) (IsOneLine-take (position_or_len (λ b. b == 58) line) line one_line) part.0)

  no_colon : has_byte 58 address ≡ false
  no_colon = has_byte-before_first 58 line

  address_is : address_in kept_line ≡ address
  address_is = before_first-stop 58 address code no_colon

  code_is : instructions_in kept_line ≡ code
  code_is = after_first-stop 58 address code no_colon

  may_be_kept : IsKeptLine kept_line
  may_be_kept = record {
    colon = list_any-append (λ x. x == 58) address (58 ∷ code) ∙ or_right (has_byte 58 address) true refl;
    range = ap is_bad_range address_is ∙ good;
    decodes = ap (λ bytes. is_some (decoded bytes)) code_is ∙ ap is_some decodes;
  }

  pairs_are : pairs_in line ≡ pairs_with read.instr (spread address)
  pairs_are = cond-false (is_ignored line) [] (rule_pairs line) rule ∙ ap (λ o. pairs_under o address) read.is

  instr_is : the_instr (instructions_in kept_line) ≡ read.instr
  instr_is = ap the_instr code_is ∙ ap (λ o. unwrap_or o (record { verdict = Allow; settings = [] })) decodes

  tallied : Tallies (pairs_in line) tally
  tallied = record {
    counted = counted ∙ count-read line read.instr addresses address read.is spread_is refl ∙ sym (ap length (cond-false (is_ignored line) [] (rule_pairs line) rule));
    measured = measured ∙ (λ i. length_with (code_is_long i) (spread_is i)) ∙ sym (stored_length-pairs_with read.instr (spread address)) ∙ sym (ap stored_length pairs_are);
  }

  pub IsKeptOf-read : IsKeptOf line all tally
  IsKeptOf-read = record {
    lines = subst (AllByRecursion (λ (l : Line). (l.ended ≡ true) × IsKeptLine l.bytes)) (sym lines_are) ((refl, may_be_kept), tt);
    rules = ap (flat_map (λ (l : Line). rules_at l.bytes)) lines_are ∙ append-nil (rules_at kept_line) ∙ (λ i. pairs_with (instr_is i) (spread (address_is i))) ∙ sym pairs_are;
    tallied = tallied;
    short = omega (arith, ap length whole, length-append kept_line (10 ∷ []), length-append address (58 ∷ code), part.1, ap length (around_first 58 line colon), length-append address (58 ∷ instructions_in line));
  }

-- ---- line after line

-- the lines of a text up to a position were read, and what is kept of them stands at the front
pub record IsKeptUpTo (plain : Bool) (limit : ℕ) (old text : List ℕ) (start end number : ℕ) (tally : Tally) : Type 0 where
  pub lines : AreKept (take end text)
  pub rules : rules_in (take end text) ++ pairs_of (drop start old) ≡ pairs_of old
  pub tallied : Tallies (rules_in (take end text)) tally
  pub rest : drop start text ≡ drop start old
  pub same : length text ≡ length old
  pub behind : end ≤ start
  pub inside : start ≤ length old
  pub faults : first_faulty limit (number + 1) (lines_of (drop start old)) ≡ first_faulty limit 1 (lines_of old)
  pub room : number ≤ start
  pub rest_plain : plain ≡ true → IsPlain (drop start old)

-- no line was read
pub IsKeptUpTo-none : (plain : Bool) (limit : ℕ) (text : List ℕ) (tally : Tally) → (plain ≡ true → IsPlain text) → tally.rules ≡ 0 → tally.bytes ≡ 0 → IsKeptUpTo plain limit text text 0 0 0 tally
IsKeptUpTo-none plain limit text tally is_plain no_rules no_bytes = record {
  lines = tt;
  rules = refl;
  tallied = record { counted = no_rules; measured = no_bytes };
  rest = refl;
  same = refl;
  behind = omega arith;
  inside = omega arith;
  faults = refl;
  room = omega arith;
  rest_plain = is_plain;
}

-- all lines were read
pub IsKept-all : (plain : Bool) (limit : ℕ) (old text : List ℕ) (start end number : ℕ) (tally : Tally) → IsKeptUpTo plain limit old text start end number tally → length text ≤ start → (first_faulty limit 1 (lines_of old) ≡ None) × IsKept old (take end text) tally
IsKept-all plain limit old text start end number tally up past =
    let nothing : drop start old ≡ [] = drop_all start old (omega (arith, up.same)) in
    let rules : rules_in (take end text) ≡ pairs_of old = sym (append-nil (rules_in (take end text))) ∙ ap (λ xs. rules_in (take end text) ++ pairs_of xs) (sym nothing) ∙ up.rules in (
      sym up.faults ∙ ap (λ xs. first_faulty limit (number + 1) (lines_of xs)) nothing,
      record { lines = up.lines; rules = rules; tallied = subst (λ rs. Tallies rs tally) rules up.tallied },
    )

module _ (plain : Bool) (limit : ℕ) (old text line after : List ℕ) (start end number : ℕ) (tally : Tally) (up : IsKeptUpTo plain limit old text start end number tally)
    (first : IsFirstLine (take (length text - start) (drop start text)) line after) where
  -- what is left begins with the line
  first_old : lines_of (drop start old) ≡ record { bytes = line; ended = first.0 } ∷ lines_of after
  first_old = ap lines_of (sym (take_rest text start ∙ up.rest)) ∙ first.1

  -- the first fault of the text is that of the line
  pub fault-here : (kind : LineKind) → fault_in limit (trimmed line) ≡ Some kind → first_faulty limit 1 (lines_of old) ≡ Some (record { line = number + 1; kind = kind })
  fault-here kind fault =
      sym up.faults ∙ ap (first_faulty limit (number + 1)) first_old
      ∙ ap (λ f. or_later (number + 1) f (first_faulty limit (number + 1 + 1) (lines_of after))) fault

  -- the line is plain where the text is, and so is what follows it
  pub plain-parts : IsCutAtFeed (take (length text - start) (drop start text)) line after → plain ≡ true → IsPlain line × IsPlain after
  plain-parts cut is_plain = IsPlain-cut (take (length text - start) (drop start text)) line after cut (subst IsPlain (sym (take_rest text start ∙ up.rest)) (up.rest_plain is_plain))

  module _ (kept : List ℕ) (more : Tally) (next : ℕ) (start_in : start < length text)
      (follows : after ≡ drop (length (take (length text - start) (drop start text)) - length after) (take (length text - start) (drop start text)))
      (shorter : length after < length (take (length text - start) (drop start text))) (parts : length line + length after ≤ length (take (length text - start) (drop start text)))
      (one_line : IsOneLine line) (cut : IsCutAtFeed (take (length text - start) (drop start text)) line after) (is : IsKeptOf (trimmed line) kept more) (faultless : fault_in limit (trimmed line) ≡ None) (next_is : next ≡ length text - length after) where
    long : length (take (length text - start) (drop start text)) ≡ length (drop start text)
    long = ap length (take_rest text start)

    -- there is room for what is kept
    pub room-kept : end + length kept ≤ next
    room-kept = omega (arith, long, length-drop start text, (trimmed-part line one_line).1, is.short, up.behind)

    after_is : after ≡ drop next text
    after_is =
        follows ∙ (λ i. drop (long i - length after) (take_rest text start i)) ∙ drop-drop (length (drop start text) - length after) start text
        ∙ ap (λ n. drop n text) (let at : start + (length (drop start text) - length after) ≡ next = omega (arith, long, length-drop start text) in at)

    after_old : after ≡ drop next old
    after_old =
        after_is ∙ ap (λ n. drop n text) (let at : next ≡ start + (next - start) = omega (arith, long, length-drop start text) in at)
        ∙ sym (drop-drop (next - start) start text) ∙ ap (drop (next - start)) up.rest ∙ drop-drop (next - start) start old
        ∙ ap (λ n. drop n old) (let at : start + (next - start) ≡ next = omega (arith, long, length-drop start text) in at)

    pairs_old : pairs_of (drop start old) ≡ pairs_in (trimmed line) ++ pairs_of after
    pairs_old = ap (flat_map (λ (l : Line). pairs_in (trimmed l.bytes))) first_old

    -- one line more
    pub IsKeptUpTo-more : (text' : List ℕ) (total : Tally) → take (end + length kept) text' ≡ take end text ++ kept → drop next text' ≡ drop next text → length text' ≡ length text → total.rules ≡ tally.rules + more.rules → total.bytes ≡ tally.bytes + more.bytes → IsKeptUpTo plain limit old text' next (end + length kept) (number + 1) total
    IsKeptUpTo-more text' total front back same counted measured =
        let A = rules_in (take end text) in
        let rules : rules_in (take (end + length kept) text') ≡ A ++ pairs_in (trimmed line) = ap rules_in front ∙ rules_in-append (take end text) kept up.lines ∙ ap (λ rs. A ++ rs) is.rules in
        record {
          lines = subst AreKept (sym front) (AreKept-append (take end text) kept up.lines is.lines);
          rules = (λ i. rules i ++ pairs_of (sym after_old i)) ∙ append_assoc A (pairs_in (trimmed line)) (pairs_of after) ∙ ap (λ rs. A ++ rs) (sym pairs_old) ∙ up.rules;
          tallied = subst (λ rs. Tallies rs total) (sym rules) (Tallies-append A (pairs_in (trimmed line)) tally more total up.tallied is.tallied counted measured);
          rest = back ∙ sym after_is ∙ after_old;
          same = same ∙ up.same;
          behind = room-kept;
          inside = omega (arith, next_is, up.same);
          faults = ap (λ xs. first_faulty limit (number + 1 + 1) (lines_of xs)) (sym after_old)
              ∙ sym (ap (λ f. or_later (number + 1) f (first_faulty limit (number + 1 + 1) (lines_of after))) faultless)
              ∙ ap (first_faulty limit (number + 1)) (sym first_old) ∙ up.faults;
          room = omega (arith, long, length-drop start text, up.room);
          rest_plain = λ is_plain. subst IsPlain after_old (plain-parts cut is_plain).1;
        }
