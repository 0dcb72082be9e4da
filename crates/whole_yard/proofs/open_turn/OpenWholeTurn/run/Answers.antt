use Rattle.std.proofs.Common.{inr, sym, ap, subst, ◌∙◌}
use Rattle.std.specs.Prelude.{is_some}
use Rattle.server_events.specs.declared.event.Event.TheVariants as event
use Rattle.server_yard.specs.Passes.{pass_bytes, pass_file}
use Rattle.whole_yard.specs.Standing.{LeadsOpened, Matches, YardState, standing_of}
use Rattle.whole_yard.specs.WholeYards.{whole_directory, whole_roll, whole_state}
use Rattle.whole_yard.proofs.Calling.{answered, noted_by, same_from, spoken_state}
use Rattle.whole_yard.proofs.Counts.{one_counted}
use Rattle.whole_yard.proofs.open_turn.OpenWholeTurn.run.Goals as goal

pub returns-in-Ok-clause-found : goal.returns-in-Ok-clause-found
returns-in-Ok-clause-found g c = λ honest.
    let old = c.args.yard.now in
    let mid = c.speaker.new.self in
    c.in-Ok.ensures.found honest
    ∙ ap standing_of (spoken_state c.args.caller old mid c.speaker.ensures.speaks c.speaker.ensures.same)

pub returns-in-Ok-clause-noted : goal.returns-in-Ok-clause-noted
returns-in-Ok-clause-noted g c =
    let e = event.Opened c.args.self.serial (is_some (pass_file c.in-Ok.opened.0)) in
    noted_by c.args.caller e (whole_roll c.args.yard.now) (whole_roll c.speaker.new.self) (whole_roll c.open.new.self)
    c.speaker.ensures.speaks c.in-Ok.ensures.noted.noted

pub returns-in-Ok-clause-step : goal.returns-in-Ok-clause-step
returns-in-Ok-clause-step g c = λ honest.
    let old = c.args.yard.now in
    let mid = c.speaker.new.self in
    subst (λ (s : YardState). LeadsOpened c.args.self.serial (pass_bytes g.D.File.RulesFile.bytes c.in-Ok.opened.0) s (whole_state c.open.new.self))
    (spoken_state c.args.caller old mid c.speaker.ensures.speaks c.speaker.ensures.same) (c.in-Ok.ensures.step honest)

pub returns-in-Ok-clause-without : goal.returns-in-Ok-clause-without
returns-in-Ok-clause-without g c = λ unset. c.open.ensures.without (c.speaker.ensures.same.rules ∙ unset) ∙ c.speaker.ensures.same.directory

pub returns-in-Ok-clause-same : goal.returns-in-Ok-clause-same
returns-in-Ok-clause-same g c =
    same_from c.args.yard.now c.speaker.new.self c.open.new.self c.speaker.ensures.same c.open.ensures.same

pub returns-in-Ok-clause-seats : goal.returns-in-Ok-clause-seats
returns-in-Ok-clause-seats g c = λ i. c.open.ensures.seats i ∙ c.speaker.ensures.seats i

pub returns-in-Err-OutOfMemory-clause-without : goal.returns-in-Err-OutOfMemory-clause-without
returns-in-Err-OutOfMemory-clause-without g c = λ unset. c.open.ensures.without (c.speaker.ensures.same.rules ∙ unset) ∙ c.speaker.ensures.same.directory

pub returns-in-Err-OutOfMemory-clause-same : goal.returns-in-Err-OutOfMemory-clause-same
returns-in-Err-OutOfMemory-clause-same g c =
    same_from c.args.yard.now c.speaker.new.self c.open.new.self c.speaker.ensures.same c.open.ensures.same

pub returns-in-Err-OutOfMemory-clause-seats : goal.returns-in-Err-OutOfMemory-clause-seats
returns-in-Err-OutOfMemory-clause-seats g c = λ i. c.open.ensures.seats i ∙ c.speaker.ensures.seats i

pub returns-in-Err-clause-without : goal.returns-in-Err-clause-without
returns-in-Err-clause-without g c = λ unset. c.open.ensures.without (c.speaker.ensures.same.rules ∙ unset) ∙ c.speaker.ensures.same.directory

pub returns-in-Err-clause-same : goal.returns-in-Err-clause-same
returns-in-Err-clause-same g c =
    same_from c.args.yard.now c.speaker.new.self c.open.new.self c.speaker.ensures.same c.open.ensures.same

pub returns-in-Err-clause-seats : goal.returns-in-Err-clause-seats
returns-in-Err-clause-seats g c = λ i. c.open.ensures.seats i ∙ c.speaker.ensures.seats i

pub returns-then-ne-clause-seats : goal.returns-then-ne-clause-seats
returns-then-ne-clause-seats g c = c.speaker.ensures.seats

pub returns-in-Ok-clause-stops : goal.returns-in-Ok-clause-stops
returns-in-Ok-clause-stops g c = λ honest files w image at left.
    let old = c.args.yard.now in
    let mid = c.speaker.new.self in
    let dir = g.D.Dir in
    let same = c.speaker.ensures.same in
    c.open.ensures.stops honest files w image
    (subst (λ (s : YardState). Matches s files w) (sym (spoken_state c.args.caller old mid c.speaker.ensures.speaks same)) at)
    (subst (λ (from : _). dir.left_since (whole_directory c.open.new.self) (dir.moment from) image) (sym same.directory) left)

pub returns-in-Err-OutOfMemory-clause-stops : goal.returns-in-Err-OutOfMemory-clause-stops
returns-in-Err-OutOfMemory-clause-stops g c = λ honest files w image at left.
    let old = c.args.yard.now in
    let mid = c.speaker.new.self in
    let dir = g.D.Dir in
    let same = c.speaker.ensures.same in
    c.open.ensures.stops honest files w image
    (subst (λ (s : YardState). Matches s files w) (sym (spoken_state c.args.caller old mid c.speaker.ensures.speaks same)) at)
    (subst (λ (from : _). dir.left_since (whole_directory c.open.new.self) (dir.moment from) image) (sym same.directory) left)

pub returns-in-Err-clause-stops : goal.returns-in-Err-clause-stops
returns-in-Err-clause-stops g c = λ honest files w image at left.
    let old = c.args.yard.now in
    let mid = c.speaker.new.self in
    let dir = g.D.Dir in
    let same = c.speaker.ensures.same in
    c.open.ensures.stops honest files w image
    (subst (λ (s : YardState). Matches s files w) (sym (spoken_state c.args.caller old mid c.speaker.ensures.speaks same)) at)
    (subst (λ (from : _). dir.left_since (whole_directory c.open.new.self) (dir.moment from) image) (sym same.directory) left)

pub returns-then-ne-clause-stops : goal.returns-then-ne-clause-stops
returns-then-ne-clause-stops g c = λ honest files w image at left.
    let same = c.speaker.ensures.same in
    let dir = g.D.Dir in
    inr (g.met.D.Dir.only_now (whole_directory c.speaker.new.self) image honest (subst (λ (from : _). dir.left_since (whole_directory c.speaker.new.self) (dir.moment from) image) (sym same.directory) left))

pub returns-in-Ok-clause-counts : goal.returns-in-Ok-clause-counts
returns-in-Ok-clause-counts g c =
    one_counted c.args.caller _ (whole_roll c.args.yard.now) (whole_roll c.speaker.new.self) (whole_roll c.open.new.self)
    c.speaker.ensures.speaks c.in-Ok.ensures.noted.noted

pub returns-in-Ok-clause-answers : goal.returns-in-Ok-clause-answers
returns-in-Ok-clause-answers g c =
    let e = event.Opened c.args.self.serial (is_some (pass_file c.in-Ok.opened.0)) in
    let its = answered c.args.caller e c.in-Ok.opened.1 (whole_roll c.args.yard.now) (whole_roll c.speaker.new.self) (whole_roll c.open.new.self) c.speaker.ensures.speaks c.in-Ok.ensures.noted in
    ((c.in-Ok.ensures.its, its.0, its.1), tt)
