use Rattle.std.proofs.Common.{◌≡◌, ℕ, Bool, Option, None, Some, inr, refl, sym, ap, subst, ◌∙◌, arith, eq-eqb}
use Rattle.std.proofs.lemmas.Bool.{ne_eqb}
use Rattle.std.specs.Prelude.{◌==◌, IfSome, Ok, Err, if◌then◌else◌}
use mathlib.Core.Logic.{∥∥₁_map}
use Rattle.rules_install.specs.Installing.{Fits, Installing, next_phase}
use Rattle.rules_install.specs.Installs.{installing}
use Rattle.dir_calls.specs.declared.phase.Phase.TheVariants.{Done}
use Rattle.rules_install.specs.declared.fault.InstallFault.TheVariants.{Over}
use Rattle.whole_yard.specs.Installed.{KeepsHistory}
use Rattle.whole_yard.specs.Kept.{installing_of, is_kept, lists_of, phase_of, rules_of}
use Rattle.server_yard.specs.Rolls.{NotesSome}
use Rattle.server_yard.specs.Yards.{yard_books, yard_roll, yard_server}
use Rattle.whole_yard.specs.Standing.{HasUnderWay, LeadsSome, YardState}
use Rattle.whole_yard.specs.Stepping.{GoesAsStep, event_of_step, kept_after_step}
use Rattle.whole_yard.specs.WholeYards.{kept_under, whole_roll, whole_state}
use Rattle.whole_yard.proofs.Going.{going_then, kept_is, kept_numbers, kept_result, later, not_over, phase_then, some_rules, states, steps_to, still_state}
use Rattle.whole_yard.proofs.Keeping.{kept_quiet, none_not_some, some_stored}
use Rattle.whole_yard.proofs.Refusals.{kept_is_last, none_under, over_leads, over_notes}
use Rattle.whole_yard.proofs.Stepped.{has_kept, it_kept, step_leads}
use Rattle.whole_yard.proofs.yard.WholeYard.install_step.Goals as goal

pub step_noted-result-requires-clause-is_open : goal.step_noted-result-requires-clause-is_open
step_noted-result-requires-clause-is_open g c =
    let old = c.args.self.now in
    (old.going (installing c.in-UnderWay.install) (ap installing_of (sym c.in-UnderWay.ensures.value))).is_open

pub step_noted-result-requires-clause-undone : goal.step_noted-result-requires-clause-undone
step_noted-result-requires-clause-undone g c =
    let old = c.args.self.now in
    (old.going (installing c.in-UnderWay.install) (ap installing_of (sym c.in-UnderWay.ensures.value))).undone

pub step_noted-result-requires-clause-phase : goal.step_noted-result-requires-clause-phase
step_noted-result-requires-clause-phase g c = λ begun.
    let old = c.args.self.now in
    sym old.phase ∙ ap (λ i. phase_of (installing_of i)) (sym c.in-UnderWay.ensures.value)

pub step_noted-result-requires-clause-fits : goal.step_noted-result-requires-clause-fits
step_noted-result-requires-clause-fits g c = λ honest.
    let old = c.args.self.now in
    old.finds honest (installing c.in-UnderWay.install) (ap installing_of (sym c.in-UnderWay.ensures.value))

pub invariant_of-self : goal.invariant_of-self
invariant_of-self g c =
    let old = c.args.self.now in
    let same = ap installing_of (c.replace.ensures.after ∙ c.in-Idle.ensures.value) in
    record {
      honest = old.honest;
      installs = old.installs;
      told = old.told;
      phase = ap phase_of same ∙ old.phase;
      going = λ x is. old.going x (sym same ∙ is);
      finds = λ honest x is. old.finds honest x (sym same ∙ is);
      listed = old.listed;
      installed = λ met. ∥∥₁_map (old.installed met) (λ k. kept_quiet refl refl refl refl refl refl refl same k);
    }

pub invariant_of-self-in-AtDone : goal.invariant_of-self-in-AtDone
invariant_of-self-in-AtDone g c =
    let old = c.args.self.now in
    let same = ap installing_of (c.becomes.ensures ∙ c.in-AtDone.ensures.value) in
    record {
      honest = old.honest;
      installs = old.installs;
      told = old.told;
      phase = ap phase_of same ∙ old.phase;
      going = λ x is. old.going x (sym same ∙ is);
      finds = λ honest x is. old.finds honest x (sym same ∙ is);
      listed = old.listed;
      installed = λ met. ∥∥₁_map (old.installed met) (λ k. kept_quiet refl refl refl refl refl refl refl same k);
    }

pub invariant_of-self-in-UnderWay : goal.invariant_of-self-in-UnderWay
invariant_of-self-in-UnderWay g c =
    let old = c.args.self.now in
    let state = g.D.Dir.state in
    let s = installing c.in-UnderWay.install in
    let inst = ap installing_of (sym c.in-UnderWay.ensures.value) in
    let going = old.going s inst in
    let made = c.step_noted-result in
    let t = installing made.new.install in
    let result = made.result in
    let kept = ap installing_of c.becomes-in-UnderWay.ensures ∙ c.after.ensures.installing in
    let r = some_rules (rules_of old.rules) going.follows in
    record {
      honest = old.honest;
      installs = old.installs;
      told = old.told;
      phase = ap phase_of kept ∙ phase_then s t (next_phase s) result (yard_roll old.yard) (yard_roll made.new.yard) made.ensures.noted made.ensures.goes (sym (ap phase_of inst) ∙ old.phase);
      going = λ x is. going_then s t (next_phase s) result (rules_of old.rules) made.ensures.same going.for_rules going.follows (λ none. going) made.ensures.goes x (sym kept ∙ is);
      finds = λ honest x is. subst (λ (u : Installing). Fits u (state made.new.dir)) (kept_is t x result (sym kept ∙ is)) (made.ensures.fits honest);
      listed = old.listed ∙ sym (some_stored _ (yard_roll old.yard) (yard_roll made.new.yard) made.ensures.noted);
      installed = λ met. ∥∥₁_map (old.installed met) (λ k.
          let honest = old.honest met in
          let far = subst (λ (o : Option Installing). HasUnderWay k.installed.world o) inst k.installed.has_installing in
          subst (λ (o : Option Installing). KeepsHistory (yard_books made.new.yard) (lists_of old.lists) (record (whole_state old) { directory = state made.new.dir; server = (yard_server made.new.yard); installing = o })) (sym kept)
          (kept_result (state old.dir) (state made.new.dir) (rules_of old.rules) (installing_of old.installation) s t (next_phase s) result (yard_roll old.yard) (yard_roll made.new.yard) (lists_of old.lists) k inst
          (has_kept k.installed.world (state old.dir) (rules_of old.rules) s r.0 k.installed.has_directory k.installed.has_rules r.1 (going.for_rules r.0 r.1) far)
          old.yard.small made.ensures.noted made.ensures.goes (made.ensures.device honest) (made.ensures.leads honest) (made.ensures.still honest) (later s going.begun)));
    }

pub returns-in-UnderWay-clause-over : goal.returns-in-UnderWay-clause-over
returns-in-UnderWay-clause-over g c =
    let old = c.args.self.now in
    let s = installing c.in-UnderWay.install in
    let made = c.step_noted-result in
    let here = c.if-number-self.false in
    let number : old.begun ≡ c.args.number = grind (arith, here) in (
      λ is. absurd (not_over s (installing made.new.install) (next_phase s) made.result made.ensures.goes is),
      λ none. absurd (none (ap (λ i. if is_kept i then Some old.begun else None) (sym c.in-UnderWay.ensures.value) ∙ ap (λ (n : ℕ). Some n) number)),
    )

pub returns-in-UnderWay-clause-after_done : goal.returns-in-UnderWay-clause-after_done
returns-in-UnderWay-clause-after_done g c = λ kept none. absurd (none_not_some _ (sym none ∙ ap installing_of (sym c.in-UnderWay.ensures.value)))

pub returns-in-UnderWay-clause-noted : goal.returns-in-UnderWay-clause-noted
returns-in-UnderWay-clause-noted g c =
    let old = c.args.self.now in
    let made = c.step_noted-result in
    let here = c.if-number-self.false in
    let is : old.begun ≡ c.args.number = grind (arith, here) in
    let number = eq-eqb old.begun c.args.number is in
    let under = ap (λ (b : Bool). if b then installing_of old.installation else None) number ∙ ap installing_of (sym c.in-UnderWay.ensures.value) in
    subst (λ (o : Option Installing). NotesSome (event_of_step o made.result) (whole_roll old) (yard_roll made.new.yard)) (sym under) made.ensures.noted

pub returns-in-UnderWay-clause-step : goal.returns-in-UnderWay-clause-step
returns-in-UnderWay-clause-step g c = λ honest.
    let old = c.args.self.now in
    let state = g.D.Dir.state in
    let s = installing c.in-UnderWay.install in
    let inst = ap installing_of (sym c.in-UnderWay.ensures.value) in
    let going = old.going s inst in
    let made = c.step_noted-result in
    let t = installing made.new.install in
    let result = made.result in
    let here = c.if-number-self.false in
    let is : old.begun ≡ c.args.number = grind (arith, here) in
    let number = eq-eqb old.begun c.args.number is in
    let under = ap (λ (b : Bool). if b then installing_of old.installation else None) number ∙ inst in
    let r = some_rules (rules_of old.rules) going.follows in
    let y = whole_state old in
    let kept = ap installing_of c.becomes-in-UnderWay.ensures ∙ c.after.ensures.installing in
    let z : YardState = record { directory = state made.new.dir; rules = rules_of old.rules; server = (yard_server made.new.yard); installing = installing_of c.becomes-in-UnderWay.new.self } in
    subst (λ (o : Option Installing). LeadsSome (event_of_step o result) y z) (sym under)
    (step_leads y z s t (next_phase s) result (it_kept y s r.0 r.1 (going.for_rules r.0 r.1) inst) made.ensures.goes (made.ensures.device honest) (made.ensures.leads honest)
    (steps_to t y z result (yard_roll old.yard) (yard_roll made.new.yard) made.ensures.noted refl refl refl kept)
    (still_state s t (next_phase s) y z result (yard_roll old.yard) (yard_roll made.new.yard) made.ensures.noted made.ensures.goes refl refl refl inst kept (made.ensures.still honest)))

pub returns-in-UnderWay-clause-stops : goal.returns-in-UnderWay-clause-stops
returns-in-UnderWay-clause-stops g c = λ honest files w image at left.
    let old = c.args.self.now in
    let s = installing c.in-UnderWay.install in
    let inst = ap installing_of (sym c.in-UnderWay.ensures.value) in
    let going = old.going s inst in
    let r = some_rules (rules_of old.rules) going.follows in
    c.step_noted-result.ensures.stops honest w image (it_kept (whole_state old) s r.0 r.1 (going.for_rules r.0 r.1) inst files w at) left

pub returns-in-UnderWay-clause-goes : goal.returns-in-UnderWay-clause-goes
returns-in-UnderWay-clause-goes g c =
    let old = c.args.self.now in
    let made = c.step_noted-result in
    let here = c.if-number-self.false in
    let is : old.begun ≡ c.args.number = grind (arith, here) in
    let number = eq-eqb old.begun c.args.number is in
    let under = ap (λ (b : Bool). if b then installing_of old.installation else None) number ∙ ap installing_of (sym c.in-UnderWay.ensures.value) in
    subst (λ (o : Option Installing). IfSome o (λ s. GoesAsStep s (installing_of c.becomes-in-UnderWay.new.self) made.result)) (sym under)
    (record { after_it = installing made.new.install; goes = made.ensures.goes; kept = ap installing_of c.becomes-in-UnderWay.ensures ∙ c.after.ensures.installing })

pub returns-in-UnderWay-clause-kept : goal.returns-in-UnderWay-clause-kept
returns-in-UnderWay-clause-kept g c =
    let old = c.args.self.now in
    let made = c.step_noted-result in
    ap (λ (b : Bool). if b then Some old.begun else None) (ap is_kept c.becomes-in-UnderWay.ensures ∙ c.after.ensures.kept) ∙ kept_numbers made.result old.begun
    ∙ ap (λ o. kept_after_step made.result o) (sym (ap (λ i. if is_kept i then Some old.begun else None) (sym c.in-UnderWay.ensures.value)))

pub returns-then-number-self-clause-over : goal.returns-then-number-self-clause-over
returns-then-number-self-clause-over g c =
    let old = c.args.self.now in
    let other = c.if-number-self.true in (
      λ is kept. let here = kept_is_last (is_kept old.installation) old.begun c.args.number kept in grind (arith, here, other),
      λ none. refl,
    )

pub returns-then-number-self-clause-after_done : goal.returns-then-number-self-clause-after_done
returns-then-number-self-clause-after_done g c = λ kept none.
    let old = c.args.self.now in
    let other = c.if-number-self.true in
    let here = kept_is_last (is_kept old.installation) old.begun c.args.number kept in
    absurd (grind (arith, here, other))

pub returns-then-number-self-clause-goes : goal.returns-then-number-self-clause-goes
returns-then-number-self-clause-goes g c =
    let old = c.args.self.now in
    let other = c.if-number-self.true in
    let apart = ne_eqb old.begun c.args.number (λ is. grind (arith, is, other)) in
    subst (λ (o : Option Installing). IfSome o (λ s. GoesAsStep s (installing_of old.installation) (Err Over)))
    (sym (ap (λ (b : Bool). if b then installing_of old.installation else None) apart)) tt

pub returns-then-number-self-clause-kept : goal.returns-then-number-self-clause-kept
returns-then-number-self-clause-kept g c = refl

pub returns-then-number-self-clause-begun : goal.returns-then-number-self-clause-begun
returns-then-number-self-clause-begun g c = refl

pub returns-then-number-self-clause-rules : goal.returns-then-number-self-clause-rules
returns-then-number-self-clause-rules g c = refl

pub returns-then-number-self-clause-lists : goal.returns-then-number-self-clause-lists
returns-then-number-self-clause-lists g c = refl

pub returns-then-number-self-clause-seats : goal.returns-then-number-self-clause-seats
returns-then-number-self-clause-seats g c = λ i. refl

pub returns-then-number-self-clause-stops : goal.returns-then-number-self-clause-stops
returns-then-number-self-clause-stops g c = λ honest files w image at left. inr (g.met.D.Dir.only_now c.args.self.now.dir image honest left)

pub returns-then-number-self-clause-noted : goal.returns-then-number-self-clause-noted
returns-then-number-self-clause-noted g c =
    let old = c.args.self.now in
    over_notes (kept_under old c.args.number) (whole_roll old) (whole_roll old) (record { stays = refl; speaks = refl; tells = refl; counts = refl; stores = refl })

pub returns-then-number-self-clause-step : goal.returns-then-number-self-clause-step
returns-then-number-self-clause-step g c =
    λ honest. over_leads (kept_under c.args.self.now c.args.number) (whole_state c.args.self.now) (whole_state c.args.self.now) refl

pub returns-in-Idle-clause-begun : goal.returns-in-Idle-clause-begun
returns-in-Idle-clause-begun g c = refl

pub returns-in-Idle-clause-rules : goal.returns-in-Idle-clause-rules
returns-in-Idle-clause-rules g c = refl

pub returns-in-Idle-clause-lists : goal.returns-in-Idle-clause-lists
returns-in-Idle-clause-lists g c = refl

pub returns-in-Idle-clause-seats : goal.returns-in-Idle-clause-seats
returns-in-Idle-clause-seats g c = λ i. refl

pub returns-in-Idle-clause-stops : goal.returns-in-Idle-clause-stops
returns-in-Idle-clause-stops g c = λ honest files w image at left. inr (g.met.D.Dir.only_now c.args.self.now.dir image honest left)

pub returns-in-Idle-clause-over : goal.returns-in-Idle-clause-over
returns-in-Idle-clause-over g c =
    let old = c.args.self.now in
    (λ is kept. none_not_some c.args.number (ap (λ i. if is_kept i then Some old.begun else None) c.in-Idle.ensures.value ∙ kept), λ none. refl)

pub returns-in-Idle-clause-after_done : goal.returns-in-Idle-clause-after_done
returns-in-Idle-clause-after_done g c = λ kept none.
    let old = c.args.self.now in
    absurd (none_not_some c.args.number (ap (λ i. if is_kept i then Some old.begun else None) c.in-Idle.ensures.value ∙ kept))

pub returns-in-Idle-clause-step : goal.returns-in-Idle-clause-step
returns-in-Idle-clause-step g c = λ honest.
    let old = c.args.self.now in
    let y = whole_state old in
    let z : YardState = record y { installing = installing_of c.replace.new.dest } in
    over_leads (kept_under old c.args.number) y z (states y z refl refl refl (ap installing_of (c.replace.ensures.after ∙ c.in-Idle.ensures.value)))

pub returns-in-Idle-clause-goes : goal.returns-in-Idle-clause-goes
returns-in-Idle-clause-goes g c =
    let old = c.args.self.now in
    let under = none_under (old.begun == c.args.number) (installing_of old.installation) (ap installing_of (sym c.in-Idle.ensures.value)) in
    subst (λ (o : Option Installing). IfSome o (λ s. GoesAsStep s (installing_of c.replace.new.dest) (Err Over))) (sym under) tt

pub returns-in-Idle-clause-kept : goal.returns-in-Idle-clause-kept
returns-in-Idle-clause-kept g c =
    let old = c.args.self.now in
    ap (λ i. if is_kept i then Some old.begun else None) (c.replace.ensures.after ∙ c.in-Idle.ensures.value)

pub returns-in-Idle-clause-noted : goal.returns-in-Idle-clause-noted
returns-in-Idle-clause-noted g c =
    let old = c.args.self.now in
    over_notes (kept_under old c.args.number) (whole_roll old) (whole_roll old) (record { stays = refl; speaks = refl; tells = refl; counts = refl; stores = refl })

pub returns-in-AtDone-clause-begun : goal.returns-in-AtDone-clause-begun
returns-in-AtDone-clause-begun g c = refl

pub returns-in-AtDone-clause-rules : goal.returns-in-AtDone-clause-rules
returns-in-AtDone-clause-rules g c = refl

pub returns-in-AtDone-clause-lists : goal.returns-in-AtDone-clause-lists
returns-in-AtDone-clause-lists g c = refl

pub returns-in-AtDone-clause-seats : goal.returns-in-AtDone-clause-seats
returns-in-AtDone-clause-seats g c = λ i. refl

pub returns-in-AtDone-clause-after_done : goal.returns-in-AtDone-clause-after_done
returns-in-AtDone-clause-after_done g c = λ kept none. refl

pub returns-in-AtDone-clause-over : goal.returns-in-AtDone-clause-over
returns-in-AtDone-clause-over g c =
    let old = c.args.self.now in
    let here = c.if-number-self.false in
    let number : old.begun ≡ c.args.number = grind (arith, here) in (
      λ is. absurd (cc),
      λ none. absurd (none (ap (λ i. if is_kept i then Some old.begun else None) (sym c.in-AtDone.ensures.value) ∙ ap (λ (n : ℕ). Some n) number)),
    )

pub returns-in-AtDone-clause-noted : goal.returns-in-AtDone-clause-noted
returns-in-AtDone-clause-noted g c =
    let old = c.args.self.now in
    let under = none_under (old.begun == c.args.number) (installing_of old.installation) (ap installing_of (sym c.in-AtDone.ensures.value)) in
    subst (λ (o : Option Installing). NotesSome (event_of_step o (Ok Done)) (whole_roll old) (whole_roll old)) (sym under)
    (record { stays = refl; speaks = refl; tells = refl; counts = refl; stores = refl })

pub returns-in-AtDone-clause-step : goal.returns-in-AtDone-clause-step
returns-in-AtDone-clause-step g c = λ honest.
    let old = c.args.self.now in
    let y = whole_state old in
    let z : YardState = record y { installing = installing_of c.becomes.new.self } in
    let under = none_under (old.begun == c.args.number) (installing_of old.installation) (ap installing_of (sym c.in-AtDone.ensures.value)) in
    subst (λ (o : Option Installing). LeadsSome (event_of_step o (Ok Done)) y z) (sym under) (states y z refl refl refl (ap installing_of (c.becomes.ensures ∙ c.in-AtDone.ensures.value)))

pub returns-in-AtDone-clause-goes : goal.returns-in-AtDone-clause-goes
returns-in-AtDone-clause-goes g c =
    let old = c.args.self.now in
    let under = none_under (old.begun == c.args.number) (installing_of old.installation) (ap installing_of (sym c.in-AtDone.ensures.value)) in
    subst (λ (o : Option Installing). IfSome o (λ s. GoesAsStep s (installing_of c.becomes.new.self) (Ok Done))) (sym under) tt

pub returns-in-AtDone-clause-kept : goal.returns-in-AtDone-clause-kept
returns-in-AtDone-clause-kept g c =
    let old = c.args.self.now in
    ap (λ i. if is_kept i then Some old.begun else None) (c.becomes.ensures ∙ c.in-AtDone.ensures.value)

pub returns-in-AtDone-clause-stops : goal.returns-in-AtDone-clause-stops
returns-in-AtDone-clause-stops g c = λ honest files w image at left. inr (g.met.D.Dir.only_now c.args.self.now.dir image honest left)

pub returns-in-UnderWay-clause-begun : goal.returns-in-UnderWay-clause-begun
returns-in-UnderWay-clause-begun g c = refl

pub returns-in-UnderWay-clause-rules : goal.returns-in-UnderWay-clause-rules
returns-in-UnderWay-clause-rules g c = refl

pub returns-in-UnderWay-clause-lists : goal.returns-in-UnderWay-clause-lists
returns-in-UnderWay-clause-lists g c = refl

pub returns-in-UnderWay-clause-seats : goal.returns-in-UnderWay-clause-seats
returns-in-UnderWay-clause-seats g c = c.step_noted-result.ensures.seats

pub returns-then-number-self-clause-untouched : goal.returns-then-number-self-clause-untouched
returns-then-number-self-clause-untouched g c = λ none. refl

pub returns-then-number-self-clause-room : goal.returns-then-number-self-clause-room
returns-then-number-self-clause-room g c = λ n. refl

pub returns-in-Idle-clause-untouched : goal.returns-in-Idle-clause-untouched
returns-in-Idle-clause-untouched g c = λ none. refl

pub returns-in-Idle-clause-room : goal.returns-in-Idle-clause-room
returns-in-Idle-clause-room g c = λ n. refl

pub returns-in-AtDone-clause-untouched : goal.returns-in-AtDone-clause-untouched
returns-in-AtDone-clause-untouched g c = λ none. refl

pub returns-in-AtDone-clause-room : goal.returns-in-AtDone-clause-room
returns-in-AtDone-clause-room g c = λ n. refl

pub returns-in-UnderWay-clause-untouched : goal.returns-in-UnderWay-clause-untouched
returns-in-UnderWay-clause-untouched g c = λ none.
    let old = c.args.self.now in
    let here = c.if-number-self.false in
    let is : old.begun ≡ c.args.number = grind (arith, here) in
    let number = eq-eqb old.begun c.args.number is in
    let under = ap (λ (b : Bool). if b then installing_of old.installation else None) number ∙ ap installing_of (sym c.in-UnderWay.ensures.value) in
    absurd (none_not_some _ (sym none ∙ under))

pub returns-in-UnderWay-clause-room : goal.returns-in-UnderWay-clause-room
returns-in-UnderWay-clause-room g c = c.step_noted-result.ensures.room

pub returns-in-UnderWay-clause-device : goal.returns-in-UnderWay-clause-device
returns-in-UnderWay-clause-device g c = c.step_noted-result.ensures.device

pub returns-in-UnderWay-clause-blames : goal.returns-in-UnderWay-clause-blames
returns-in-UnderWay-clause-blames g c = c.step_noted-result.ensures.blames
