-- Kept lines, read line by line.
use Rattle.std.proofs.Common.{◌≡◌, ℕ, ◌+◌, ◌-◌, ◌<◌, ◌≤◌, true, cond, eqb, List, [], ◌∷◌, ◌++◌, length, drop, get_or, slice_get, Some, flat_map, inl, inr, refl, sym, ap, subst, ◌∙◌, arith, length-append, length-drop, drop-drop}
use Rattle.std.specs.List.{AllByRecursion}
use Rattle.std.proofs.lemmas.Bool.{cases_Bool}
use Rattle.std.proofs.lemmas.List.{drop_at, get_or_append_left, get_or-drop, get_or-map, length-map}
use Rattle.std.proofs.lemmas.List.Concat.{flat_map-append}
use Rattle.std.proofs.lemmas.Option.{slice_get-get_or}
use Rattle.rule_lines.specs.declared.kept.KeptLine.{KeptLine}
use Rattle.rule_lines.specs.declared.kept.LinePosition.{LinePosition}
use Rattle.rule_lines.specs.Kept.{AreKept, IsKeptLine, IsLineAt, rule_of_line, rules_at, rules_in, rules_under, the_instr}
use Rattle.rule_lookup.specs.Lines.{IsFirstLine, Line, empty_line, lines_of, onto_line}
use Rattle.rule_lines.specs.ReadAddresses.{addresses_read}
use Rattle.rule_lines.proofs.RowLemmas.{rule_of}

-- ---- lines one after another

-- a line that is ended
abbrev Ended : Line → Type 0
Ended line = line.ended ≡ true

-- a byte before lines that are ended
onto_line-append : (b : ℕ) (lines more : List Line) → AllByRecursion Ended (onto_line b lines) → (onto_line b (lines ++ more) ≡ onto_line b lines ++ more) × AllByRecursion Ended lines
onto_line-append b [] more ended = absurd cc
onto_line-append b (line ∷ lines) more ended = (refl, ended)

-- what stands behind lines that are ended begins a line
pub lines_of-append : (bytes more : List ℕ) → AllByRecursion Ended (lines_of bytes) → lines_of (bytes ++ more) ≡ lines_of bytes ++ lines_of more
lines_of-append [] more ended = refl
lines_of-append (b ∷ bs) more ended =
    elim (cases_Bool (eqb b 10)) [
      | inl here ↦
          let rest = subst (λ t. AllByRecursion Ended (cond t (empty_line ∷ lines_of bs) (onto_line b (lines_of bs)))) here ended in
          ap (λ t. cond t (empty_line ∷ lines_of (bs ++ more)) (onto_line b (lines_of (bs ++ more)))) here
          ∙ ap (λ lines. empty_line ∷ lines) (lines_of-append bs more rest.1)
          ∙ sym (ap (λ t. cond t (empty_line ∷ lines_of bs) (onto_line b (lines_of bs)) ++ lines_of more) here)
      | inr other ↦
          let rest = subst (λ t. AllByRecursion Ended (cond t (empty_line ∷ lines_of bs) (onto_line b (lines_of bs)))) other ended in
          let parts = onto_line-append b (lines_of bs) (lines_of more) rest in
          ap (λ t. cond t (empty_line ∷ lines_of (bs ++ more)) (onto_line b (lines_of (bs ++ more)))) other
          ∙ ap (onto_line b) (lines_of-append bs more parts.1)
          ∙ parts.0
          ∙ sym (ap (λ t. cond t (empty_line ∷ lines_of bs) (onto_line b (lines_of bs)) ++ lines_of more) other)
    ]

-- a line that may be kept, and is ended
abbrev KeptAt : Line → Type 0
KeptAt line = Ended line × IsKeptLine line.bytes

-- kept lines are ended
Ended-kept : (lines : List Line) → AllByRecursion KeptAt lines → AllByRecursion Ended lines
Ended-kept [] kept = tt
Ended-kept (line ∷ lines) kept = (kept.0.0, Ended-kept lines kept.1)

KeptAt-append : (lines more : List Line) → AllByRecursion KeptAt lines → AllByRecursion KeptAt more → AllByRecursion KeptAt (lines ++ more)
KeptAt-append [] more first second = second
KeptAt-append (line ∷ lines) more first second = (first.0, KeptAt-append lines more first.1 second)

-- kept lines behind others
module _ (bytes more : List ℕ) (kept : AreKept bytes) where
  joined : lines_of (bytes ++ more) ≡ lines_of bytes ++ lines_of more
  joined = lines_of-append bytes more (Ended-kept (lines_of bytes) kept)

  pub AreKept-append : AreKept more → AreKept (bytes ++ more)
  AreKept-append after = subst (AllByRecursion KeptAt) (sym joined) (KeptAt-append (lines_of bytes) (lines_of more) kept after)

  pub rules_in-append : rules_in (bytes ++ more) ≡ rules_in bytes ++ rules_in more
  rules_in-append =
      ap (flat_map (λ (line : Line). rules_at line.bytes)) joined
      ∙ flat_map-append (λ (line : Line). rules_at line.bytes) (lines_of bytes) (lines_of more)

-- the first of kept lines, and the others
module _ (kept line rest : List ℕ) (first : IsFirstLine kept line rest) (are : AreKept kept) where
  parts : AllByRecursion KeptAt (record { bytes = line; ended = first.0 } ∷ lines_of rest)
  parts = subst (AllByRecursion KeptAt) first.1 are

  pub IsKeptLine-first : IsKeptLine line
  IsKeptLine-first = parts.0.1

  pub AreKept-rest : AreKept rest
  AreKept-rest = parts.1

  pub rules_in-first : rules_in kept ≡ rules_at line ++ rules_in rest
  rules_in-first = ap (flat_map (λ (line : Line). rules_at line.bytes)) first.1

-- ---- line after line

-- the front is a line
pub IsLineAt-front : (kept : List ℕ) (line : LinePosition) → line.start ≡ 0 → line.before ≡ 0 → AreKept kept → IsLineAt kept line
IsLineAt-front kept line start before are = record {
  start_in = omega (arith, start);
  before_in = omega (arith, before);
  rest = (λ i. rules_in (drop (start i) kept)) ∙ sym (ap (λ n. drop n (rules_in kept)) before);
  lines = subst (λ n. AreKept (drop n kept)) (sym start) are;
}

-- a line has as many rules as addresses
pub length-rules_under : (line : KeptLine) → length (rules_under line) ≡ length (addresses_read line.addresses)
length-rules_under line = length-map (addresses_read line.addresses) (rule_of (the_instr line.code.now))

module _ (kept : List ℕ) (here next : LinePosition) (is : IsLineAt kept here) (line : KeptLine) (after : List ℕ) (rules : rules_in (drop here.start kept) ≡ rules_under line ++ rules_in after)
    (follows : after ≡ drop (length (drop here.start kept) - length after) (drop here.start kept)) (shorter : length after < length (drop here.start kept)) (are : AreKept after)
    (start : next.start ≡ length kept - length after) (before : next.before ≡ here.before + length (addresses_read line.addresses)) where
  -- what follows the line is what is kept from the next line on
  after_is : after ≡ drop next.start kept
  after_is =
      follows ∙ drop-drop (length (drop here.start kept) - length after) here.start kept
      ∙ ap (λ n. drop n kept) (let at : here.start + (length (drop here.start kept) - length after) ≡ next.start = omega (arith, start, shorter, length-drop here.start kept, is.start_in) in at)

  -- the rules of the line and of those after it are those from its position on
  whole : rules_under line ++ rules_in after ≡ drop here.before (rules_in kept)
  whole = sym rules ∙ is.rest

  -- the line has no more rules than are left
  pub count-le : here.before + length (addresses_read line.addresses) ≤ length (rules_in kept)
  count-le = omega (arith, ap length whole, length-append (rules_under line) (rules_in after), length-rules_under line, length-drop here.before (rules_in kept), is.before_in)

  -- the next line is one
  pub IsLineAt-next : IsLineAt kept next
  IsLineAt-next = record {
    start_in = omega (arith, start);
    before_in = omega (arith, before, count-le);
    rest = ap rules_in (sym after_is)
        ∙ sym (drop_at (rules_under line) (rules_in after) (length (rules_under line)) refl)
        ∙ ap (drop (length (rules_under line))) whole
        ∙ drop-drop (length (rules_under line)) here.before (rules_in kept)
        ∙ ap (λ n. drop n (rules_in kept)) (let at : here.before + length (rules_under line) ≡ next.before = omega (arith, before, length-rules_under line) in at);
    lines = subst AreKept after_is are;
  }

  -- the rule at a position of the line
  module _ (i : ℕ) (behind : here.before ≤ i) (below : i < next.before) where
    position-in : i - here.before < length (addresses_read line.addresses)
    position-in = omega (arith, before)

    pub slice_get-line : (slice_get (rules_in kept) i ≡ Some (rule_of_line line (i - here.before))) × (i - here.before < length (addresses_read line.addresses))
    slice_get-line =
        let position = i - here.before in
        let rule = rule_of_line line position in
        let at : here.before + position ≡ i = omega arith in (
          slice_get-get_or (rules_in kept) i rule (omega (arith, before, count-le))
              ∙ ap Some (ap (λ n. get_or (rules_in kept) n rule) (sym at)
              ∙ sym (get_or-drop here.before (rules_in kept) position rule)
              ∙ ap (λ rs. get_or rs position rule) (sym whole)
              ∙ get_or_append_left (rules_under line) (rules_in after) rule position (omega (arith, length-rules_under line, position-in))
              ∙ get_or-map (rule_of (the_instr line.code.now)) (addresses_read line.addresses) position [] rule position-in),
          position-in,
        )

  -- the rule with an address of the line
  pub slice_get-at : (n : ℕ) → n < length (addresses_read line.addresses) → slice_get (rules_in kept) (here.before + n) ≡ Some (rule_of_line line n)
  slice_get-at n inside =
      let position : here.before + n - here.before ≡ n = omega arith in
      (slice_get-line (here.before + n) (omega arith) (omega (arith, before, inside))).0 ∙ ap (λ p. Some (rule_of_line line p)) position
