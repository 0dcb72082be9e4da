use Rattle.std.proofs.Common.{◌≡◌, ◌≢◌, ◌↔◌, sym, ap, subst, ◌∙◌}
use Rattle.std.specs.Prelude.{Err, IfSome, None, Option, Some, if◌then◌else◌, option_map}
use Rattle.rules_install.specs.Installing.{Installing}
use Rattle.rules_install.specs.Steps.{BlamesDevice}
use Rattle.rules_install.specs.declared.fault.InstallFault.TheVariants.{Over}
use Rattle.server_events.specs.declared.event.Event.{Event}
use Rattle.server_yard.specs.Evidence.{IsLast}
use Rattle.server_yard.specs.Rolls.{NotesSome, Roll}
use Rattle.whole_yard.specs.Standing.{LeadsSome, Matches, YardState}
use Rattle.whole_yard.specs.Stepping.{GoesAsStep, event_of_step, step_event}
use Rattle.whole_yard.specs.WholeYards.{kept_under, whole_books, whole_directory, whole_installing, whole_roll, whole_state}
use Rattle.whole_yard.specs.Receipts.{receipt_after, receipt_at}
use Rattle.whole_yard.specs.Callers.{spoken_by}
use Rattle.whole_yard.proofs.Calling.{spoken_state}
use Rattle.whole_yard.proofs.Calling.{event_if, last_of_some, noted_receipt, some_counted, spoken_kept}
use Rattle.whole_yard.proofs.Installing.{counts_made, step_made}
use Rattle.whole_yard.proofs.install_turns.InstallStepWholeTurn.run.Goals as goal

pub returns-clause-receipt : goal.returns-clause-receipt
returns-clause-receipt g c =
    let mid = c.speaker.new.self in
    let new = c.install_step-answer.new.self in
    let answer = c.install_step-answer.result in
    let kept = kept_under mid c.args.self.number in
    let event = ap (λ b. if b then step_event answer else None) c.is_under_way-under_way.ensures ∙ event_if kept answer in
    c.evidence-made.ensures
    ∙ ap (λ (e : Option Event). option_map (receipt_at (whole_books new).count (whole_roll new).speaker) e) (c.step_event.ensures ∙ event)
    ∙ noted_receipt (event_of_step kept answer) c.args.caller
    (whole_roll c.args.yard.now) (whole_roll mid) (whole_roll new) c.speaker.ensures.speaks c.install_step-answer.ensures.noted
    ∙ ap (λ (k : Option Installing). option_map (receipt_after (whole_books c.args.yard.now).count c.args.caller) (event_of_step k answer)) (spoken_kept c.args.yard.now mid c.args.self.number c.speaker.ensures.same)

pub returns-clause-over : goal.returns-clause-over
returns-clause-over g c =
    subst (λ k. (c.install_step-answer.result ≡ Err Over) ↔ (k ≢ Some c.args.self.number)) c.speaker.ensures.same.kept c.install_step-answer.ensures.over

pub returns-clause-noted : goal.returns-clause-noted
returns-clause-noted g c =
    let old = c.args.yard.now in
    let new = c.install_step-answer.new.self in
    let answer = c.install_step-answer.result in
    let kept = spoken_kept old c.speaker.new.self c.args.self.number c.speaker.ensures.same in
    subst (λ (k : Option Installing). NotesSome (event_of_step k answer) (spoken_by c.args.caller (whole_roll old)) (whole_roll new)) kept
    (subst (λ (r : Roll). NotesSome (event_of_step (kept_under c.speaker.new.self c.args.self.number) answer) r (whole_roll new))
    c.speaker.ensures.speaks c.install_step-answer.ensures.noted)

pub returns-clause-step : goal.returns-clause-step
returns-clause-step g c = λ honest.
    let old = c.args.yard.now in
    let mid = c.speaker.new.self in
    let new = c.install_step-answer.new.self in
    let answer = c.install_step-answer.result in
    let kept = spoken_kept old mid c.args.self.number c.speaker.ensures.same in
    subst (λ (k : Option Installing). LeadsSome (event_of_step k answer) (whole_state old) (whole_state new)) kept
    (subst (λ (s : YardState). LeadsSome (event_of_step (kept_under mid c.args.self.number) answer) s (whole_state new))
    (spoken_state c.args.caller old mid c.speaker.ensures.speaks c.speaker.ensures.same) (c.install_step-answer.ensures.step honest))

pub returns-clause-stops : goal.returns-clause-stops
returns-clause-stops g c = λ honest files w image at left.
    let old = c.args.yard.now in
    let mid = c.speaker.new.self in
    let dir = g.D.Dir in
    let same = c.speaker.ensures.same in
    c.install_step-answer.ensures.stops honest files w image
    (subst (λ (s : YardState). Matches s files w) (sym (spoken_state c.args.caller old mid c.speaker.ensures.speaks same)) at)
    (subst (λ (from : _). dir.left_since (whole_directory c.install_step-answer.new.self) (dir.moment from) image) (sym same.directory) left)

pub returns-clause-goes : goal.returns-clause-goes
returns-clause-goes g c =
    let kept = spoken_kept c.args.yard.now c.speaker.new.self c.args.self.number c.speaker.ensures.same in
    subst (λ (k : Option Installing). IfSome k (λ s. GoesAsStep s (whole_installing c.install_step-answer.new.self) c.install_step-answer.result)) kept c.install_step-answer.ensures.goes

pub returns-clause-device : goal.returns-clause-device
returns-clause-device g c = c.install_step-answer.ensures.device

pub returns-clause-blames : goal.returns-clause-blames
returns-clause-blames g c =
    let failed = g.D.Dir.failed in
    let new = c.install_step-answer.new.self in
    subst (λ d. BlamesDevice (failed d) (failed (whole_directory new)) c.install_step-answer.result) c.speaker.ensures.same.directory c.install_step-answer.ensures.blames

pub returns-clause-untouched : goal.returns-clause-untouched
returns-clause-untouched g c = λ none.
    let kept = spoken_kept c.args.yard.now c.speaker.new.self c.args.self.number c.speaker.ensures.same in
    c.install_step-answer.ensures.untouched (kept ∙ none) ∙ c.speaker.ensures.same.directory

pub returns-clause-counts : goal.returns-clause-counts
returns-clause-counts g c =
    some_counted c.args.caller (event_of_step (kept_under c.speaker.new.self c.args.self.number) c.install_step-answer.result)
    (whole_roll c.args.yard.now) (whole_roll c.speaker.new.self) (whole_roll c.install_step-answer.new.self) c.speaker.ensures.speaks c.install_step-answer.ensures.noted

pub returns-clause-answers : goal.returns-clause-answers
returns-clause-answers g c =
    let old = whole_roll c.args.yard.now in
    let call = c.install_step-answer in
    let kept = kept_under c.args.yard.now c.args.self.number in (
      step_made c.args.caller old.books.count kept call.result c.evidence-made.result (returns-clause-receipt g c),
      counts_made c.args.caller old.books.count c.evidence-made.result (event_of_step kept call.result) old (whole_roll call.new.self) (returns-clause-receipt g c) (returns-clause-noted g c),
    )

pub evidence-made-requires : goal.evidence-made-requires
evidence-made-requires g c =
    let mid = c.speaker.new.self in
    let new = whole_roll c.install_step-answer.new.self in
    let answer = c.install_step-answer.result in
    let kept = kept_under mid c.args.self.number in
    let event = ap (λ b. if b then step_event answer else None) c.is_under_way-under_way.ensures ∙ event_if kept answer in
    subst (λ (e : Option Event). IfSome e (λ (one : Event). IsLast one new)) (sym (c.step_event.ensures ∙ event))
    (last_of_some (event_of_step kept answer) (whole_roll mid) new c.install_step-answer.ensures.noted)
