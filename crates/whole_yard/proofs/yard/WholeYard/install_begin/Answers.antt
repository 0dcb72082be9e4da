use Rattle.std.proofs.Common.{◌∷◌, ◌++◌, [], List, Option, None, Some, inr, refl, sym, ap, subst, ◌∙◌}
use Rattle.std.specs.Prelude.{Ok, Err, if◌then◌else◌, is_some, option_map}
use Rattle.dir_calls.specs.Directory.{Directory}
use Rattle.rule_lookup.specs.Pairs.{Rule}
use Rattle.server_events.specs.ServerState.{ServerState, phase_after}
use mathlib.Core.Logic.{∥∥₁_map}
use Rattle.rules_install.specs.Installing.{Fits, Installing, next_phase}
use Rattle.rules_install.specs.Installs.{installing}
use Rattle.dir_calls.specs.declared.phase.Phase.{Phase}
use Rattle.dir_calls.specs.declared.phase.Phase.TheVariants.{Fresh}
use Rattle.rules_install.specs.declared.fault.InstallFault.{InstallFault}
use Rattle.server_events.specs.declared.event.Event.{Event}
use Rattle.server_events.specs.declared.event.Event.TheVariants.{Stepped}
use Rattle.whole_yard.specs.Installed.{KeepsHistory}
use Rattle.whole_yard.specs.Kept.{IsGoing, installing_of, is_kept, lists_of, phase_of, rules_of}
use Rattle.server_yard.specs.Rolls.{Notes}
use Rattle.server_yard.specs.Yards.{yard_books, yard_roll, yard_server}
use Rattle.whole_yard.specs.Standing.{LeadsOn, LeadsSome, YardState}
use Rattle.whole_yard.specs.Stepping.{kept_then}
use Rattle.whole_yard.specs.WholeYards.{whole_state}
use Rattle.whole_yard.proofs.Beginning.{back_of, disk_event, disk_kept, disk_phase, disk_then, fault_kept, first_is, kept_fault, named_by, named_rules, none_event, not_disk_over, quiet_of}
use Rattle.whole_yard.proofs.Going.{going_at, kept_stepped, not_over, states, steps_to}
use Rattle.whole_yard.proofs.Keeping.{is_some-map, kept_quiet, none_not_some, one_more_of, same_some, some_stored}
use Rattle.whole_yard.proofs.Stepped.{has_new, it_new, step_leads}
use Rattle.whole_yard.proofs.yard.WholeYard.install_begin.Goals as goal

pub begin_noted-requires-clause-is_open : goal.begin_noted-requires-clause-is_open
begin_noted-requires-clause-is_open g c = c.in-Some.ensures.some.0.is_open

pub begin_noted-requires-clause-unbegun : goal.begin_noted-requires-clause-unbegun
begin_noted-requires-clause-unbegun g c = c.in-Some.ensures.some.0.unbegun

pub returns-in_default-clause-over : goal.returns-in_default-clause-over
returns-in_default-clause-over g c = (λ is. c.in_default.ensures.none refl, λ none. refl)

pub returns-in_default-clause-number : goal.returns-in_default-clause-number
returns-in_default-clause-number g c = tt

pub returns-in_default-clause-stops : goal.returns-in_default-clause-stops
returns-in_default-clause-stops g c = λ honest files w image at left. inr (g.met.D.Dir.only_now c.args.self.now.dir image honest left)

pub invariant_of-self : goal.invariant_of-self
invariant_of-self g c =
    let old = c.args.self.now in
    let state = g.D.Dir.state in
    let s = installing c.args.install in
    let may = c.in-Some.ensures.some.0 in
    let made = c.begin_noted in
    let t = installing made.new.install in
    let p = c.in-Ok.field-0 in
    let goes = c.in-Ok.ensures.goes in
    let noted = c.in-Ok.ensures.noted in
    let first = first_is s may.unbegun in
    let is = goes.0 ∙ first in
    let reached = goes.1 ∙ ap (λ (q : Phase). Some q) first in
    let r = named_rules (rules_of old.rules) s.names.cdb may.for_rules in
    let rules = rules_of old.rules in
    let kept = ap installing_of c.becomes.ensures in
    record {
      honest = old.honest;
      installs = old.installs;
      told = old.told;
      phase = ap phase_of kept ∙ reached ∙ sym (ap (λ (u : ServerState). u.phase) noted.happens ∙ ap phase_after is);
      going = λ x same. subst (λ (u : Installing). IsGoing u rules) (same_some t x (sym kept ∙ same)) (going_at s t rules Fresh (λ e. absurd (cc)) c.in-Ok.ensures.same (named_by rules s.names.cdb may.for_rules) (λ none. none_not_some r.0 (sym none ∙ r.1)) goes.2 reached);
      finds = λ honest x same. subst (λ (u : Installing). Fits u (state made.new.dir)) (same_some t x (sym kept ∙ same)) (c.in-Ok.ensures.fits honest);
      listed = ap (λ (o : Option (List (List Rule))). is_some o) c.in-Ok.ensures.kept ∙ is_some-map _ (lists_of old.lists) ∙ old.listed ∙ sym (some_stored (Some (Stepped p)) (yard_roll old.yard) (yard_roll made.new.yard) noted);
      installed = λ met. ∥∥₁_map (old.installed met) (λ k.
          let honest = old.honest met in
          subst (λ (o : Option Installing). KeepsHistory (yard_books made.new.yard) (lists_of made.new.lists) (record (whole_state old) { directory = state made.new.dir; server = (yard_server made.new.yard); installing = o }))
          (ap (λ (q : Phase). kept_then t (Ok q)) is ∙ sym kept)
          (kept_stepped (whole_state old) (yard_server made.new.yard) (state made.new.dir) s t (next_phase s) k
          (has_new k.installed.world (state old.dir) rules s r.0 k.installed.has_directory k.installed.has_rules r.1 r.2 may.unbegun) (λ q h. h.1 ∙ ap (λ (x : Phase). Some x) (sym h.0)) p old.yard.speaker
          (one_more_of (Stepped p) (yard_roll old.yard) (yard_roll made.new.yard) old.yard.small tt noted) goes (c.in-Ok.ensures.leads honest)
          ((λ fresh. c.in-Ok.ensures.kept ∙ ap (λ (rs : List Rule). option_map (λ (all : List (List Rule)). all ++ rs ∷ []) (lists_of old.lists)) (sym c.in-Ok.ensures.same.rules)), λ other. absurd (other is))));
    }

pub invariant_of-self-then-is_of_disk : goal.invariant_of-self-then-is_of_disk
invariant_of-self-then-is_of_disk g c =
    let old = c.args.self.now in
    let state = g.D.Dir.state in
    let s = installing c.args.install in
    let may = c.in-Some.ensures.some.0 in
    let made = c.begin_noted in
    let t = installing made.new.install in
    let fault = c.in-Err.fault in
    let disk = sym c.is_of_disk.ensures ∙ c.if-is_of_disk.true in
    let r = named_rules (rules_of old.rules) s.names.cdb may.for_rules in
    let rules = rules_of old.rules in
    let none = ap installing_of c.becomes-then-is_of_disk.ensures in
    record {
      honest = old.honest;
      installs = old.installs;
      told = old.told;
      phase = ap phase_of none ∙ sym (disk_phase fault (yard_roll old.yard) (yard_roll made.new.yard) disk c.in-Err.ensures.noted);
      going = λ x same. absurd (none_not_some x (sym none ∙ same));
      finds = λ honest x same. absurd (none_not_some x (sym none ∙ same));
      listed = ap (λ (o : Option (List (List Rule))). is_some o) c.in-Err.ensures.err ∙ old.listed ∙ sym (some_stored _ (yard_roll old.yard) (yard_roll made.new.yard) c.in-Err.ensures.noted);
      installed = λ met. ∥∥₁_map (old.installed met) (λ k.
          let honest = old.honest met in
          subst (λ (o : Option Installing). KeepsHistory (yard_books made.new.yard) (lists_of made.new.lists) (record (whole_state old) { directory = state made.new.dir; server = (yard_server made.new.yard); installing = o })) (sym none)
          (kept_fault (state old.dir) (state made.new.dir) rules (installing_of old.installation) s t fault (yard_roll old.yard) (yard_roll made.new.yard) k
          (has_new k.installed.world (state old.dir) rules s r.0 k.installed.has_directory k.installed.has_rules r.1 r.2 may.unbegun) old.yard.small disk c.in-Err.ensures.noted (c.in-Err.ensures.device honest) c.in-Err.ensures.err (c.in-Err.ensures.leads honest)));
    }

pub returns-then-is_of_disk-clause-over : goal.returns-then-is_of_disk-clause-over
returns-then-is_of_disk-clause-over g c =
    let disk = sym c.is_of_disk.ensures ∙ c.if-is_of_disk.true in
    (λ is. absurd (not_disk_over c.in-Err.fault disk is), λ none. absurd (none c.in-Some.ensures.some.0))

pub returns-then-is_of_disk-clause-number : goal.returns-then-is_of_disk-clause-number
returns-then-is_of_disk-clause-number g c = tt

pub returns-then-is_of_disk-clause-kept : goal.returns-then-is_of_disk-clause-kept
returns-then-is_of_disk-clause-kept g c =
    let disk = sym c.is_of_disk.ensures ∙ c.if-is_of_disk.true in
    ap (λ i. if is_kept i then Some c.args.self.now.begun else None) c.becomes-then-is_of_disk.ensures ∙ sym (disk_kept c.in-Err.fault _ disk)

pub returns-then-is_of_disk-clause-step : goal.returns-then-is_of_disk-clause-step
returns-then-is_of_disk-clause-step g c = λ honest.
    let old = c.args.self.now in
    let state = g.D.Dir.state in
    let s = installing c.args.install in
    let may = c.in-Some.ensures.some.0 in
    let made = c.begin_noted in
    let t = installing made.new.install in
    let fault = c.in-Err.fault in
    let disk = sym c.is_of_disk.ensures ∙ c.if-is_of_disk.true in
    let r = named_rules (rules_of old.rules) s.names.cdb may.for_rules in
    let y = whole_state old in
    let z : YardState = record { directory = state made.new.dir; rules = rules_of old.rules; server = (yard_server made.new.yard); installing = installing_of c.becomes-then-is_of_disk.new.self } in
    step_leads y z s t (next_phase s) (Err fault) (it_new y s r.0 r.1 r.2 may.unbegun) c.in-Err.ensures.goes (c.in-Err.ensures.device honest) (c.in-Err.ensures.leads honest)
    (steps_to t y z (Err fault) (yard_roll old.yard) (yard_roll made.new.yard) c.in-Err.ensures.noted refl refl refl (ap installing_of c.becomes-then-is_of_disk.ensures ∙ sym (disk_then t fault disk)))
    (λ none. absurd (disk_event fault disk none))

pub returns-then-is_of_disk-clause-stops : goal.returns-then-is_of_disk-clause-stops
returns-then-is_of_disk-clause-stops g c = λ honest files w image at left.
    let old = c.args.self.now in
    let s = installing c.args.install in
    let may = c.in-Some.ensures.some.0 in
    let r = named_rules (rules_of old.rules) s.names.cdb may.for_rules in
    c.in-Err.ensures.stops honest w image (it_new (whole_state old) s r.0 r.1 r.2 may.unbegun files w at) left

pub returns-then-is_of_disk-clause-back : goal.returns-then-is_of_disk-clause-back
returns-then-is_of_disk-clause-back g c =
    let s = installing c.args.install in
    back_of s (installing c.begin_noted.new.install) (next_phase s) c.in-Err.fault c.in-Err.ensures.goes

pub invariant_of-self-else-is_of_disk : goal.invariant_of-self-else-is_of_disk
invariant_of-self-else-is_of_disk g c =
    let old = c.args.self.now in
    let made = c.begin_noted in
    let fault = c.in-Err.fault in
    let other = sym c.is_of_disk.ensures ∙ c.if-is_of_disk.false in
    let quiet = quiet_of fault (yard_roll old.yard) (yard_roll made.new.yard) other c.in-Err.ensures.noted in
    record {
      honest = old.honest;
      installs = old.installs;
      told = old.told;
      phase = old.phase ∙ sym (ap (λ (u : ServerState). u.phase) quiet.stays);
      going = old.going;
      finds = λ honest x same. subst (λ (d : Directory). Fits x d) (sym (c.in-Err.ensures.still honest (none_event fault other))) (old.finds honest x same);
      listed = ap (λ (o : Option (List (List Rule))). is_some o) c.in-Err.ensures.err ∙ old.listed ∙ sym (some_stored _ (yard_roll old.yard) (yard_roll made.new.yard) c.in-Err.ensures.noted);
      installed = λ met. ∥∥₁_map (old.installed met) (λ k. kept_quiet quiet.tells quiet.counts quiet.stores c.in-Err.ensures.err quiet.stays (c.in-Err.ensures.still (old.honest met) (none_event fault other)) refl refl k);
    }

pub returns-in-Ok-clause-step : goal.returns-in-Ok-clause-step
returns-in-Ok-clause-step g c = λ honest.
    let old = c.args.self.now in
    let state = g.D.Dir.state in
    let s = installing c.args.install in
    let may = c.in-Some.ensures.some.0 in
    let made = c.begin_noted in
    let t = installing made.new.install in
    let p = c.in-Ok.field-0 in
    let is = c.in-Ok.ensures.goes.0 ∙ first_is s may.unbegun in
    let r = named_rules (rules_of old.rules) s.names.cdb may.for_rules in
    let y = whole_state old in
    let z : YardState = record { directory = state made.new.dir; rules = rules_of old.rules; server = (yard_server made.new.yard); installing = installing_of c.becomes.new.self } in
    subst (λ (q : Phase). LeadsOn (Stepped q) y z) is
    (step_leads y z s t (next_phase s) (Ok p) (it_new y s r.0 r.1 r.2 may.unbegun) c.in-Ok.ensures.goes tt (c.in-Ok.ensures.leads honest)
    (steps_to t y z (Ok p) (yard_roll old.yard) (yard_roll made.new.yard) c.in-Ok.ensures.noted refl refl refl (ap installing_of c.becomes.ensures ∙ sym (ap (λ (q : Phase). kept_then t (Ok q)) is)))
    (λ none. absurd (none_not_some (Stepped p) (sym none))))

pub returns-in-Ok-clause-stops : goal.returns-in-Ok-clause-stops
returns-in-Ok-clause-stops g c = λ honest files w image at left.
    let old = c.args.self.now in
    let s = installing c.args.install in
    let may = c.in-Some.ensures.some.0 in
    let r = named_rules (rules_of old.rules) s.names.cdb may.for_rules in
    c.in-Ok.ensures.stops honest w image (it_new (whole_state old) s r.0 r.1 r.2 may.unbegun files w at) left

pub returns-in-Ok-clause-noted : goal.returns-in-Ok-clause-noted
returns-in-Ok-clause-noted g c =
    let old = c.args.self.now in
    let s = installing c.args.install in
    let is = c.in-Ok.ensures.goes.0 ∙ first_is s c.in-Some.ensures.some.0.unbegun in
    subst (λ (q : Phase). Notes (Stepped q) (yard_roll old.yard) (yard_roll c.begin_noted.new.yard)) is c.in-Ok.ensures.noted

pub returns-else-is_of_disk-clause-over : goal.returns-else-is_of_disk-clause-over
returns-else-is_of_disk-clause-over g c =
    let s = installing c.args.install in
    (λ is. absurd (not_over s (installing c.begin_noted.new.install) (next_phase s) (Err c.in-Err.fault) c.in-Err.ensures.goes (ap (λ (f : InstallFault). Err f) is)), λ none. absurd (none c.in-Some.ensures.some.0))

pub returns-else-is_of_disk-clause-number : goal.returns-else-is_of_disk-clause-number
returns-else-is_of_disk-clause-number g c = tt

pub returns-else-is_of_disk-clause-kept : goal.returns-else-is_of_disk-clause-kept
returns-else-is_of_disk-clause-kept g c =
    let other = sym c.is_of_disk.ensures ∙ c.if-is_of_disk.false in
    sym (fault_kept c.in-Err.fault _ other)

pub returns-else-is_of_disk-clause-step : goal.returns-else-is_of_disk-clause-step
returns-else-is_of_disk-clause-step g c = λ honest.
    let old = c.args.self.now in
    let state = g.D.Dir.state in
    let made = c.begin_noted in
    let fault = c.in-Err.fault in
    let other = sym c.is_of_disk.ensures ∙ c.if-is_of_disk.false in
    let quiet = quiet_of fault (yard_roll old.yard) (yard_roll made.new.yard) other c.in-Err.ensures.noted in
    let y = whole_state old in
    let z : YardState = record { directory = state made.new.dir; rules = rules_of old.rules; server = (yard_server made.new.yard); installing = installing_of old.installation } in
    subst (λ (o : Option Event). LeadsSome o y z) (sym (none_event fault other)) (states y z (c.in-Err.ensures.still honest (none_event fault other)) refl quiet.stays refl)

pub returns-else-is_of_disk-clause-stops : goal.returns-else-is_of_disk-clause-stops
returns-else-is_of_disk-clause-stops g c = λ honest files w image at left.
    let old = c.args.self.now in
    let s = installing c.args.install in
    let may = c.in-Some.ensures.some.0 in
    let r = named_rules (rules_of old.rules) s.names.cdb may.for_rules in
    c.in-Err.ensures.stops honest w image (it_new (whole_state old) s r.0 r.1 r.2 may.unbegun files w at) left

pub returns-else-is_of_disk-clause-back : goal.returns-else-is_of_disk-clause-back
returns-else-is_of_disk-clause-back g c =
    let s = installing c.args.install in
    back_of s (installing c.begin_noted.new.install) (next_phase s) c.in-Err.fault c.in-Err.ensures.goes

pub returns-in_default-clause-begun : goal.returns-in_default-clause-begun
returns-in_default-clause-begun g c = refl

pub returns-in_default-clause-kept : goal.returns-in_default-clause-kept
returns-in_default-clause-kept g c = refl

pub returns-in_default-clause-rules : goal.returns-in_default-clause-rules
returns-in_default-clause-rules g c = refl

pub returns-in_default-clause-noted : goal.returns-in_default-clause-noted
returns-in_default-clause-noted g c = record { stays = refl; speaks = refl; tells = refl; counts = refl; stores = refl }

pub returns-in_default-clause-step : goal.returns-in_default-clause-step
returns-in_default-clause-step g c = λ honest. refl

pub returns-in_default-clause-lists : goal.returns-in_default-clause-lists
returns-in_default-clause-lists g c = refl

pub returns-in_default-clause-back : goal.returns-in_default-clause-back
returns-in_default-clause-back g c = refl

pub returns-in_default-clause-seats : goal.returns-in_default-clause-seats
returns-in_default-clause-seats g c = λ i. refl

pub returns-then-is_of_disk-clause-begun : goal.returns-then-is_of_disk-clause-begun
returns-then-is_of_disk-clause-begun g c = refl

pub returns-then-is_of_disk-clause-rules : goal.returns-then-is_of_disk-clause-rules
returns-then-is_of_disk-clause-rules g c = refl

pub returns-then-is_of_disk-clause-noted : goal.returns-then-is_of_disk-clause-noted
returns-then-is_of_disk-clause-noted g c = c.in-Err.ensures.noted

pub returns-then-is_of_disk-clause-lists : goal.returns-then-is_of_disk-clause-lists
returns-then-is_of_disk-clause-lists g c = c.in-Err.ensures.err

pub returns-then-is_of_disk-clause-seats : goal.returns-then-is_of_disk-clause-seats
returns-then-is_of_disk-clause-seats g c = c.begin_noted.ensures.seats

pub returns-else-is_of_disk-clause-begun : goal.returns-else-is_of_disk-clause-begun
returns-else-is_of_disk-clause-begun g c = refl

pub returns-else-is_of_disk-clause-rules : goal.returns-else-is_of_disk-clause-rules
returns-else-is_of_disk-clause-rules g c = refl

pub returns-else-is_of_disk-clause-noted : goal.returns-else-is_of_disk-clause-noted
returns-else-is_of_disk-clause-noted g c = c.in-Err.ensures.noted

pub returns-else-is_of_disk-clause-lists : goal.returns-else-is_of_disk-clause-lists
returns-else-is_of_disk-clause-lists g c = c.in-Err.ensures.err

pub returns-else-is_of_disk-clause-seats : goal.returns-else-is_of_disk-clause-seats
returns-else-is_of_disk-clause-seats g c = c.begin_noted.ensures.seats

pub returns-in-Ok-clause-over : goal.returns-in-Ok-clause-over
returns-in-Ok-clause-over g c = (λ refused. absurd refused, λ none. none c.in-Some.ensures.some.0)

pub returns-in-Ok-clause-back : goal.returns-in-Ok-clause-back
returns-in-Ok-clause-back g c = tt

pub returns-in-Ok-clause-number : goal.returns-in-Ok-clause-number
returns-in-Ok-clause-number g c = c.in-Some.ensures.some.1

pub returns-in-Ok-clause-begun : goal.returns-in-Ok-clause-begun
returns-in-Ok-clause-begun g c = refl

pub returns-in-Ok-clause-kept : goal.returns-in-Ok-clause-kept
returns-in-Ok-clause-kept g c = ap (λ i. if is_kept i then Some c.in-Some.number else None) c.becomes.ensures

pub returns-in-Ok-clause-rules : goal.returns-in-Ok-clause-rules
returns-in-Ok-clause-rules g c = refl

pub returns-in-Ok-clause-lists : goal.returns-in-Ok-clause-lists
returns-in-Ok-clause-lists g c = c.in-Ok.ensures.kept

pub returns-in-Ok-clause-seats : goal.returns-in-Ok-clause-seats
returns-in-Ok-clause-seats g c = c.begin_noted.ensures.seats

pub returns-in_default-clause-untouched : goal.returns-in_default-clause-untouched
returns-in_default-clause-untouched g c = λ is. refl

pub returns-in_default-clause-room : goal.returns-in_default-clause-room
returns-in_default-clause-room g c = λ n. refl

pub returns-in-Ok-clause-untouched : goal.returns-in-Ok-clause-untouched
returns-in-Ok-clause-untouched g c = λ is. absurd is

pub returns-in-Ok-clause-room : goal.returns-in-Ok-clause-room
returns-in-Ok-clause-room g c = c.in-Ok.ensures.room

pub returns-then-is_of_disk-clause-untouched : goal.returns-then-is_of_disk-clause-untouched
returns-then-is_of_disk-clause-untouched g c = λ is.
    let disk = sym c.is_of_disk.ensures ∙ c.if-is_of_disk.true in
    absurd (not_disk_over c.in-Err.fault disk is)

pub returns-then-is_of_disk-clause-device : goal.returns-then-is_of_disk-clause-device
returns-then-is_of_disk-clause-device g c = c.in-Err.ensures.device

pub returns-then-is_of_disk-clause-blames : goal.returns-then-is_of_disk-clause-blames
returns-then-is_of_disk-clause-blames g c = c.in-Err.ensures.blames

pub returns-then-is_of_disk-clause-room : goal.returns-then-is_of_disk-clause-room
returns-then-is_of_disk-clause-room g c = c.in-Err.ensures.room

pub returns-else-is_of_disk-clause-untouched : goal.returns-else-is_of_disk-clause-untouched
returns-else-is_of_disk-clause-untouched g c = λ is.
    let s = installing c.args.install in
    absurd (not_over s (installing c.begin_noted.new.install) (next_phase s) (Err c.in-Err.fault) c.in-Err.ensures.goes (ap (λ (f : InstallFault). Err f) is))

pub returns-else-is_of_disk-clause-device : goal.returns-else-is_of_disk-clause-device
returns-else-is_of_disk-clause-device g c = c.in-Err.ensures.device

pub returns-else-is_of_disk-clause-blames : goal.returns-else-is_of_disk-clause-blames
returns-else-is_of_disk-clause-blames g c = c.in-Err.ensures.blames

pub returns-else-is_of_disk-clause-room : goal.returns-else-is_of_disk-clause-room
returns-else-is_of_disk-clause-room g c = c.in-Err.ensures.room
