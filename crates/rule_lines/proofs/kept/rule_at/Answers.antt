-- Line after line is read until one has the rule.
use Rattle.std.proofs.Common.{◌≡◌, ◌+◌, ◌-◌, ◌<◌, ◌≤◌, ◌++◌, [], length, drop, slice_get, length-drop, refl, sym, ap, subst, ◌∙◌, arith}
use Rattle.std.proofs.lemmas.List.{drop_all, take_rest}
use Rattle.std.proofs.lemmas.Option.{slice_get_past}
use Rattle.rule_lines.specs.declared.kept.LinePosition.{LinePosition}
use Rattle.rule_lines.specs.Kept.{AreKept, IsLineAt, rules_in, rules_under}
use Rattle.rule_lines.specs.ReadAddresses.{addresses_read}
use Rattle.rule_lines.proofs.KeptLemmas.{IsLineAt-next, slice_get-at, slice_get-line}
use Rattle.rule_lines.proofs.kept.rule_at.Goals as goal
use Rattle.rule_lines.proofs.kept.rule_at.Goals.{After-count_in, then-is_last, else-is_last}

-- the line after the one that was read
abbrev next_of : After-count_in → LinePosition
next_of c = record { start = length c.args.kept.now - length c.first_kept.result.1.now; before = c.loop-here.here.before + c.count_in.result }

-- what was read is the first line of what is kept from here on
record IsRead (c : After-count_in) : Type 0 where
  rules : rules_in (drop c.loop-here.here.start c.args.kept.now) ≡ rules_under c.first_kept.result.0 ++ rules_in c.first_kept.result.1.now
  follows : c.first_kept.result.1.now ≡ drop (length (drop c.loop-here.here.start c.args.kept.now) - length c.first_kept.result.1.now) (drop c.loop-here.here.start c.args.kept.now)
  shorter : length c.first_kept.result.1.now < length (drop c.loop-here.here.start c.args.kept.now)
  before : (next_of c).before ≡ c.loop-here.here.before + length (addresses_read c.first_kept.result.0.addresses)

is_read : (c : After-count_in) → IsRead c
is_read c =
    let rest = take_rest c.args.kept.now c.loop-here.here.start in
    let after = c.first_kept.result.1.now in
    record {
      rules = ap rules_in (sym rest) ∙ c.first_kept.ensures.rules;
      follows = c.first_kept.ensures.follows ∙ (λ i. drop (length (rest i) - length after) (rest i));
      shorter = omega (arith, c.first_kept.ensures.shorter, ap length rest);
      before = ap (λ n. c.loop-here.here.before + n) c.count_in.ensures;
    }

next_is : (c : After-count_in) → IsLineAt c.args.kept.now (next_of c)
next_is c =
    let read = is_read c in
    IsLineAt-next c.args.kept.now c.loop-here.here (next_of c) c.loop-here.invariant.0 c.first_kept.result.0 c.first_kept.result.1.now read.rules read.follows read.shorter c.first_kept.ensures.kept refl read.before

fits : (c : After-count_in) → c.loop-here.here.before + c.count_in.result ≤ length (rules_in c.args.kept.now)
fits c = (next_is c).before_in

pub loop-here-init : goal.loop-here-init
loop-here-init c = (c.requires.from, c.requires.behind)

pub first_kept-requires-clause-kept : goal.first_kept-requires-clause-kept
first_kept-requires-clause-kept c = subst AreKept (sym (take_rest c.args.kept.now c.loop-here.here.start)) c.loop-here.invariant.0.lines

pub overflow_add-next : goal.overflow_add-next
overflow_add-next c = omega (arith, fits c, c.requires.fits)

pub overflow_add-is_last : goal.overflow_add-is_last
overflow_add-is_last c = omega (arith, fits (goal.at.overflow_add-is_last c).After-count_in, c.requires.fits, c.if-i-next.true)

pub overflow_sub-result : goal.overflow_sub-result
overflow_sub-result c = c.loop-here.invariant.1

pub returns-then-i-next : goal.returns-then-i-next
returns-then-i-next c =
    let at = (goal.at.returns-then-i-next c).After-count_in in
    let read = is_read at in
    let found = slice_get-line c.args.kept.now c.loop-here.here (next_of at) c.loop-here.invariant.0 c.first_kept.result.0 c.first_kept.result.1.now read.rules read.follows read.shorter c.first_kept.ensures.kept refl read.before c.args.i c.loop-here.invariant.1 c.if-i-next.true in
    record {
      rule = found.0;
      position = found.1;
      position_by = omega arith;
      others = λ n inside.
          let before = c.loop-here.here.before in
          let back : c.args.i - (c.args.i - before) ≡ before = omega (arith, c.loop-here.invariant.1) in
          ap (λ k. slice_get (rules_in c.args.kept.now) (k + n)) back
          ∙ slice_get-at c.args.kept.now c.loop-here.here (next_of at) c.loop-here.invariant.0 c.first_kept.result.0 c.first_kept.result.1.now read.rules read.follows read.shorter c.first_kept.ensures.kept refl read.before n inside;
      decodes = c.first_kept.ensures.decodes;
      resume = elim c.if-is_last.branch [
        | then-is_last w ↦ subst (IsLineAt c.args.kept.now) (sym w.result-is) (next_is at)
        | else-is_last w ↦ subst (IsLineAt c.args.kept.now) (sym w.result-is) c.loop-here.invariant.0
      ];
      resume_by = elim c.if-is_last.branch [
        | then-is_last w ↦ omega (arith, ap (λ (l : LinePosition). l.before) w.result-is, w.if-is_last.true)
        | else-is_last w ↦ omega (arith, ap (λ (l : LinePosition). l.before) w.result-is, c.loop-here.invariant.1)
      ];
    }

pub loop-here-preserved : goal.loop-here-preserved
loop-here-preserved c = (next_is (goal.at.loop-here-preserved c).After-count_in, c.if-i-next.false)

pub returns : goal.returns
returns c =
    let is = c.loop-here.invariant.0 in
    let nothing : rules_in (drop c.loop-here.here.start c.args.kept.now) ≡ [] = ap rules_in (drop_all c.loop-here.here.start c.args.kept.now c.loop-here-test.false) in
    let none : length (drop c.loop-here.here.before (rules_in c.args.kept.now)) ≡ 0 = ap length (sym is.rest ∙ nothing) in
    slice_get_past (rules_in c.args.kept.now) c.args.i (omega (arith, none, length-drop c.loop-here.here.before (rules_in c.args.kept.now), c.loop-here.invariant.1))
