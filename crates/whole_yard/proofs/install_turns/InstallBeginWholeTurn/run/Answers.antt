use Rattle.std.proofs.Common.{◌≡◌, ◌+◌, ℕ, sym, ap, subst, ◌∙◌}
use Rattle.std.specs.Prelude.{IfErr, IfOk, IfSome, Option, option_map}
use Rattle.rules_install.specs.Installs.{installing}
use Rattle.rules_install.specs.Steps.{BlamesFault}
use Rattle.server_events.specs.declared.event.Event.{Event}
use Rattle.server_yard.specs.Evidence.{IsLast}
use Rattle.server_yard.specs.Rolls.{NotesSome, Roll}
use Rattle.whole_yard.specs.Standing.{LeadsSome, Matches, YardState}
use Rattle.whole_yard.specs.Stepping.{begin_event, kept_after_begin, last_begun_after, lists_after_begin}
use Rattle.whole_yard.specs.WholeYards.{whole_directory, whole_roll, whole_state}
use Rattle.whole_yard.specs.Receipts.{receipt_at}
use Rattle.whole_yard.proofs.Calling.{spoken_state}
use Rattle.whole_yard.proofs.Calling.{last_of_some, may_begin_from, noted_receipt, some_counted}
use Rattle.whole_yard.proofs.Installing.{counts_made}
use Rattle.whole_yard.proofs.install_turns.InstallBeginWholeTurn.run.Goals as goal

pub returns-clause-over : goal.returns-clause-over
returns-clause-over g c =
    let old = c.args.yard.now in
    let mid = c.speaker.new.self in
    let same = c.speaker.ensures.same in
    let over = c.install_begin-answer.ensures.over in (
      λ refused may. over.0 refused (may_begin_from old mid (installing c.args.self.install) same.rules same.begun may),
      λ never. over.1 (λ may. never (may_begin_from mid old (installing c.args.self.install) (sym same.rules) (sym same.begun) may)),
    )

pub returns-clause-noted : goal.returns-clause-noted
returns-clause-noted g c =
    subst (λ (r : Roll). NotesSome (begin_event c.install_begin-answer.result) r (whole_roll c.install_begin-answer.new.self))
    c.speaker.ensures.speaks c.install_begin-answer.ensures.noted

pub returns-clause-step : goal.returns-clause-step
returns-clause-step g c = λ honest.
    let old = c.args.yard.now in
    let mid = c.speaker.new.self in
    subst (λ (s : YardState). LeadsSome (begin_event c.install_begin-answer.result) s (whole_state c.install_begin-answer.new.self))
    (spoken_state c.args.caller old mid c.speaker.ensures.speaks c.speaker.ensures.same) (c.install_begin-answer.ensures.step honest)

pub returns-clause-stops : goal.returns-clause-stops
returns-clause-stops g c = λ honest files w image at left.
    let old = c.args.yard.now in
    let mid = c.speaker.new.self in
    let dir = g.D.Dir in
    let same = c.speaker.ensures.same in
    c.install_begin-answer.ensures.stops honest files w image
    (subst (λ (s : YardState). Matches s files w) (sym (spoken_state c.args.caller old mid c.speaker.ensures.speaks same)) at)
    (subst (λ (from : _). dir.left_since (whole_directory c.install_begin-answer.new.self) (dir.moment from) image) (sym same.directory) left)

pub returns-clause-seats : goal.returns-clause-seats
returns-clause-seats g c = λ i. c.install_begin-answer.ensures.seats i ∙ c.speaker.ensures.seats i

pub returns-clause-begun : goal.returns-clause-begun
returns-clause-begun g c = c.install_begin-answer.ensures.begun ∙ ap (last_begun_after c.install_begin-answer.result) c.speaker.ensures.same.begun

pub returns-clause-kept : goal.returns-clause-kept
returns-clause-kept g c = c.install_begin-answer.ensures.kept ∙ ap (kept_after_begin c.install_begin-answer.result) c.speaker.ensures.same.kept

pub returns-clause-rules : goal.returns-clause-rules
returns-clause-rules g c = c.install_begin-answer.ensures.rules ∙ c.speaker.ensures.same.rules

pub returns-clause-lists : goal.returns-clause-lists
returns-clause-lists g c =
    c.install_begin-answer.ensures.lists ∙ ap (lists_after_begin c.install_begin-answer.result (installing c.args.self.install).rules) c.speaker.ensures.same.lists_same

pub returns-clause-number : goal.returns-clause-number
returns-clause-number g c =
    let answer = c.install_begin-answer.result in
    subst (λ (last : ℕ). IfOk answer (λ number. number ≡ last + 1)) c.speaker.ensures.same.begun c.install_begin-answer.ensures.number

pub returns-clause-device : goal.returns-clause-device
returns-clause-device g c = c.install_begin-answer.ensures.device

pub returns-clause-blames : goal.returns-clause-blames
returns-clause-blames g c =
    let failed = g.D.Dir.failed in
    let new = c.install_begin-answer.new.self in
    subst (λ d. IfErr c.install_begin-answer.result (λ r. BlamesFault (failed d) (failed (whole_directory new)) r.1)) c.speaker.ensures.same.directory c.install_begin-answer.ensures.blames

pub returns-clause-untouched : goal.returns-clause-untouched
returns-clause-untouched g c = λ refused. c.install_begin-answer.ensures.untouched refused ∙ c.speaker.ensures.same.directory

pub returns-clause-counts : goal.returns-clause-counts
returns-clause-counts g c =
    some_counted c.args.caller (begin_event c.install_begin-answer.result)
    (whole_roll c.args.yard.now) (whole_roll c.speaker.new.self) (whole_roll c.install_begin-answer.new.self) c.speaker.ensures.speaks c.install_begin-answer.ensures.noted

pub returns-clause-answers : goal.returns-clause-answers
returns-clause-answers g c =
    let old = whole_roll c.args.yard.now in
    let call = c.install_begin-answer in
    let receipt =
    c.evidence-made.ensures ∙ ap (option_map (receipt_at (whole_roll c.install_begin-answer.new.self).books.count (whole_roll c.install_begin-answer.new.self).speaker)) c.begin_event.ensures ∙ noted_receipt (begin_event c.install_begin-answer.result) c.args.caller
    (whole_roll c.args.yard.now) (whole_roll c.speaker.new.self) (whole_roll c.install_begin-answer.new.self) c.speaker.ensures.speaks c.install_begin-answer.ensures.noted in
    let noted =
    subst (λ (r : Roll). NotesSome (begin_event c.install_begin-answer.result) r (whole_roll c.install_begin-answer.new.self))
    c.speaker.ensures.speaks c.install_begin-answer.ensures.noted in
    (receipt, counts_made c.args.caller old.books.count c.evidence-made.result (begin_event call.result) old (whole_roll call.new.self) receipt noted, call.ensures.back)

pub evidence-made-requires : goal.evidence-made-requires
evidence-made-requires g c =
    let new = whole_roll c.install_begin-answer.new.self in
    subst (λ (e : Option Event). IfSome e (λ (one : Event). IsLast one new)) (sym c.begin_event.ensures)
    (last_of_some (begin_event c.install_begin-answer.result) (whole_roll c.speaker.new.self) new c.install_begin-answer.ensures.noted)
