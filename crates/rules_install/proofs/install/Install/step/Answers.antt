-- Each way through a step promises the same.
use Rattle.std.proofs.Common.{◌<◌, true, false, ◌∙◌, ap}
use Rattle.std.specs.Prelude.{Some, None}
use Rattle.dir_calls.specs.declared.phase.Phase.TheVariants.{Fresh, Filling, Synced, Named, Done}
use Rattle.rules_install.specs.Filled.{fillings_left}
use Rattle.rules_install.specs.Installs.{installing}
use Rattle.rules_install.proofs.StepEnds.{next_is, next_filled, not_done, named_not_done, over_ends, done_ends, step_ends, no_filling, of_ok}
use Rattle.rules_install.proofs.install.Install.step.Goals as goal

pub close-requires-clause-next : goal.close-requires-clause-next
close-requires-clause-next g c = next_filled (installing c.args.self.now) c.in-Some.reached true c.in-Some.is c.in-Fresh.is c.if-self-2.true

pub fill-requires-clause-next : goal.fill-requires-clause-next
fill-requires-clause-next g c = next_filled (installing c.args.self.now) c.in-Some.reached false c.in-Some.is c.in-Fresh.is c.if-self-2.false

pub returns-then-self : goal.returns-then-self
returns-then-self g c =
    let s = installing c.args.self.now in
    let ends = over_ends g.D.Dir s c.args.dir.now c.if-self.true
    (λ honest image left. g.met.D.Dir.only_now c.args.dir.now image honest left) c.requires.fits in
    record {
      same = ends.same;
      over = ends.over;
      after_done = ends.after_done;
      goes = ends.goes;
      more = ends.more;
      kept = ends.kept;
      changes = ends.changes;
      time = ends.time;
      fits = ends.fits;
      old_or_new = ends.old_or_new;
      done = ends.done;
      written = c.written.ensures;
      settling = ends.settling;
      device = ends.device;
      failures = ends.failures;
      blames = ends.blames;
    }

pub returns-in_default : goal.returns-in_default
returns-in_default g c =
    let s = installing c.args.self.now in
    let next = next_is s None c.in_default.is in
    let s' = installing c.make_scratch.new.self in
    let ends = step_ends g.D.Dir s Fresh s' c.args.dir.now c.make_scratch.new.dir c.make_scratch.result c.if-self.false next
    (not_done s.reached s.patched Fresh next tt) c.make_scratch.ensures
    (λ fills. absurd (no_filling Fresh s s' c.make_scratch.result c.make_scratch.ensures.goes tt fills)) in
    record {
      same = ends.same;
      over = ends.over;
      after_done = ends.after_done;
      goes = ends.goes;
      more = ends.more;
      kept = ends.kept;
      changes = ends.changes;
      time = ends.time;
      fits = ends.fits;
      old_or_new = ends.old_or_new;
      done = ends.done;
      written = c.written.ensures;
      settling = ends.settling;
      device = ends.device;
      failures = ends.failures;
      blames = ends.blames;
    }

pub returns-then-self-2 : goal.returns-then-self-2
returns-then-self-2 g c =
    let s = installing c.args.self.now in
    let next = next_filled s c.in-Some.reached true c.in-Some.is c.in-Fresh.is c.if-self-2.true in
    let s' = installing c.close.new.self in
    let ends = step_ends g.D.Dir s Synced s' c.args.dir.now c.close.new.dir c.close.result c.if-self.false next
    (not_done s.reached s.patched Synced next tt) c.close.ensures
    (λ fills. absurd (no_filling Synced s s' c.close.result c.close.ensures.goes tt fills)) in
    record {
      same = ends.same;
      over = ends.over;
      after_done = ends.after_done;
      goes = ends.goes;
      more = ends.more;
      kept = ends.kept;
      changes = ends.changes;
      time = ends.time;
      fits = ends.fits;
      old_or_new = ends.old_or_new;
      done = ends.done;
      written = c.written.ensures;
      settling = ends.settling;
      device = ends.device;
      failures = ends.failures;
      blames = ends.blames;
    }

pub returns-in-Synced : goal.returns-in-Synced
returns-in-Synced g c =
    let s = installing c.args.self.now in
    let next = next_is s (Some Synced) (c.in-Some.is ∙ ap Some c.in-Synced.is) in
    let s' = installing c.put_in_place.new.self in
    let ends = step_ends g.D.Dir s Named s' c.args.dir.now c.put_in_place.new.dir c.put_in_place.result c.if-self.false next
    (not_done s.reached s.patched Named next tt) c.put_in_place.ensures
    (λ fills. absurd (no_filling Named s s' c.put_in_place.result c.put_in_place.ensures.goes tt fills)) in
    record {
      same = ends.same;
      over = ends.over;
      after_done = ends.after_done;
      goes = ends.goes;
      more = ends.more;
      kept = ends.kept;
      changes = ends.changes;
      time = ends.time;
      fits = ends.fits;
      old_or_new = ends.old_or_new;
      done = ends.done;
      written = c.written.ensures;
      settling = ends.settling;
      device = ends.device;
      failures = ends.failures;
      blames = ends.blames;
    }

pub returns-in-Named : goal.returns-in-Named
returns-in-Named g c =
    let s = installing c.args.self.now in
    let next = next_is s (Some Named) (c.in-Some.is ∙ ap Some c.in-Named.is) in
    let s' = installing c.settle_names.new.self in
    let ends = step_ends g.D.Dir s Done s' c.args.dir.now c.settle_names.new.dir c.settle_names.result c.if-self.false next
    (named_not_done s.reached (c.in-Some.is ∙ ap Some c.in-Named.is)) c.settle_names.ensures
    (λ fills. absurd (no_filling Done s s' c.settle_names.result c.settle_names.ensures.goes tt fills)) in
    record {
      same = ends.same;
      over = ends.over;
      after_done = ends.after_done;
      goes = ends.goes;
      more = ends.more;
      kept = ends.kept;
      changes = ends.changes;
      time = ends.time;
      fits = ends.fits;
      old_or_new = ends.old_or_new;
      done = ends.done;
      written = c.written.ensures;
      settling = ends.settling;
      device = ends.device;
      failures = ends.failures;
      blames = ends.blames;
    }

pub returns-else-self-2 : goal.returns-else-self-2
returns-else-self-2 g c =
    let s = installing c.args.self.now in
    let next = next_filled s c.in-Some.reached false c.in-Some.is c.in-Fresh.is c.if-self-2.false in
    let s' = installing c.fill.new.self in
    let ends = step_ends g.D.Dir s Filling s' c.args.dir.now c.fill.new.dir c.fill.result c.if-self.false next
    (not_done s.reached s.patched Filling next tt) c.fill.ensures.step
    (of_ok c.fill.result Filling (fillings_left s'.rules s'.filled s'.patched < fillings_left s.rules s.filled s.patched) c.fill.ensures.more) in
    record {
      same = ends.same;
      over = ends.over;
      after_done = ends.after_done;
      goes = ends.goes;
      more = ends.more;
      kept = ends.kept;
      changes = ends.changes;
      time = ends.time;
      fits = ends.fits;
      old_or_new = ends.old_or_new;
      done = ends.done;
      written = c.written.ensures;
      settling = ends.settling;
      device = ends.device;
      failures = ends.failures;
      blames = ends.blames;
    }

pub returns-in-Done : goal.returns-in-Done
returns-in-Done g c =
    let s = installing c.args.self.now in
    let ends = done_ends g.D.Dir s c.args.dir.now c.if-self.false (c.in-Some.is ∙ ap Some c.in-Done.is)
    (λ honest image left. g.met.D.Dir.only_now c.args.dir.now image honest left) c.requires.fits in
    record {
      same = ends.same;
      over = ends.over;
      after_done = ends.after_done;
      goes = ends.goes;
      more = ends.more;
      kept = ends.kept;
      changes = ends.changes;
      time = ends.time;
      fits = ends.fits;
      old_or_new = ends.old_or_new;
      done = ends.done;
      written = c.written.ensures;
      settling = ends.settling;
      device = ends.device;
      failures = ends.failures;
      blames = ends.blames;
    }
