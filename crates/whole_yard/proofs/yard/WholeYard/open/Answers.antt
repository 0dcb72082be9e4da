use Rattle.std.proofs.Common.{◌≡◌, ◌⊎◌, Bool, ap, refl, sym, subst, ◌∙◌}
use Rattle.std.specs.Prelude.{is_some, option_map}
use Rattle.dir_calls.specs.Images.{IsImage}
use Rattle.headline.specs.Steps.{MayLeave}
use Rattle.server_events.specs.declared.event.Event.TheVariants as event
use Rattle.server_yard.specs.Evidence.{IsNoted}
use Rattle.server_yard.specs.Passes.{pass_bytes, pass_file}
use Rattle.server_yard.specs.Rolls.{Notes, Roll}
use Rattle.server_yard.specs.Rooms.{KeepsRoom}
use Rattle.whole_yard.specs.Standing.{LeadsOpened, YardState, standing_of}
use Rattle.whole_yard.specs.WholeYards.{whole_roll, whole_state}
use Rattle.whole_yard.proofs.Keeping.{is_some-map, own_then}
use Rattle.whole_yard.proofs.Matching.{opened_leads}
use Rattle.whole_yard.proofs.yard.WholeYard.open.Goals as goal

pub returns-clause-found : goal.returns-clause-found
returns-clause-found g c = λ honest.
    ap (λ file. option_map g.D.File.RulesFile.bytes file) c.opened.ensures.found ∙ c.in_ok-file.ensures.found honest

pub returns-clause-noted : goal.returns-clause-noted
returns-clause-noted g c =
    subst (λ (r : Roll). IsNoted (event.Opened c.args.serial (is_some (pass_file c.opened.result.0))) c.opened.result.1 r (whole_roll c.opened.new.self)) c.find.ensures.roll c.opened.ensures.noted

pub returns-clause-step : goal.returns-clause-step
returns-clause-step g c = λ honest.
    let mid = c.find.new.self in
    let new = c.opened.new.self in
    let n = c.args.serial in
    let file = pass_file c.opened.result.0 in
    let bytes = pass_bytes g.D.File.RulesFile.bytes c.opened.result.0 in
    let noted = subst (λ (b : Bool). Notes (event.Opened n b) (whole_roll mid) (whole_roll new)) (sym (is_some-map g.D.File.RulesFile.bytes file)) c.opened.ensures.noted.noted in
    subst (λ (y : YardState). bytes ≡ standing_of y → LeadsOpened n bytes y (whole_state new)) (c.find.ensures.state honest)
    (λ found. subst (λ (z : YardState). LeadsOpened n bytes (whole_state mid) z) (sym (own_then mid new c.opened.ensures.same))
    (opened_leads (whole_state mid) n bytes (whole_roll mid) (whole_roll new) found noted))
    (returns-clause-found g c honest)

pub returns-clause-stops : goal.returns-clause-stops
returns-clause-stops g c = λ honest files w image at left.
    let old = c.args.self.now in
    let dir = g.D.Dir in
    let same = c.opened.ensures.same.directory in
    subst (λ (now : _). MayLeave w image ⊎ IsImage (dir.state now) image) (sym same)
    (c.find.ensures.stops honest files w image at (subst (λ (now : _). dir.left_since now (dir.moment old.dir) image) same left))

pub returns-in_err-file-clause-room : goal.returns-in_err-file-clause-room
returns-in_err-file-clause-room g c =
    subst (λ (r : Roll). KeepsRoom (whole_roll c.args.self.now) r) (sym c.find.ensures.roll) (λ n. refl)

pub returns-clause-room : goal.returns-clause-room
returns-clause-room g c =
    subst (λ (r : Roll). KeepsRoom r (whole_roll c.opened.new.self)) c.find.ensures.roll c.opened.ensures.room
