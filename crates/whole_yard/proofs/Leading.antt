-- A step of an installation leads from each world in which it is under way to one in which it is so too.
use Rattle.std.proofs.Common.{◌≡◌, ◌≢◌, inl, Bool, true, false, [], ◌∷◌, ◌++◌, length, ℕ, refl, sym, ◌∙◌, ap, subst}
use Rattle.std.specs.Prelude.{Option, None, Some, is_some, max, Result, Ok, Err}
use Rattle.dir_calls.specs.Calls.{Call, makes, syncs, renames, settles, after}
use Rattle.dir_calls.specs.Directory.{Directory, FileState, scratch_of}
use Rattle.dir_calls.specs.Outcomes.{Fails}
use Rattle.dir_calls.specs.declared.fault.DirFault.TheVariants.{NoScratch, NoName, Device, OutOfMemory as NoMemory}
use Rattle.rules_install.specs.Filled.{filled_file, whole_file}
use Rattle.rules_install.specs.Installing.{Installing, FitsPhase, next_of, next_phase}
use Rattle.rules_install.specs.NamePair.{NamePair}
use Rattle.rules_install.specs.Steps.{IsCallOf, IsSame}
use Rattle.dir_calls.specs.declared.phase.Phase.{Phase}
use Rattle.dir_calls.specs.declared.phase.Phase.TheVariants.{Fresh, Filling, Synced, Named, Done}
use Rattle.rules_install.specs.declared.fault.InstallFault.{InstallFault}
use Rattle.rules_install.specs.declared.fault.InstallFault.TheVariants.{Line, TooLarge, Disk, Over, OutOfMemory}
use Rattle.rules_install.proofs.StepFits.{filled_has, synced_next}
use Rattle.server_events.specs.ServerState.{after as after_event, Follows, stepped, failed}
use Rattle.headline.specs.Steps.{IsCallTo, IsWhole, Step}
use Rattle.headline.specs.Worlds.{RulesName, UnderWay, World}
use Rattle.server_events.specs.declared.event.Event.TheVariants.{Stepped, StepFailed}
use Rattle.rules_install.specs.Series.{MakesStep, MayStepFrom}
use Rattle.whole_yard.specs.UnderWay.{Arrives, HasReached, IsAsFar, IsUnderWay, as_under_way, rules_named}
use Rattle.whole_yard.proofs.Meeting.{calls, follows, scratch_name}

-- what a world has under way it has at each phase
as_far : (w : World) (s : Installing) (reached : Option Phase) → IsAsFar w s → HasReached w s reached
as_far w s None far = tt
as_far w s (Some Fresh) far = far
as_far w s (Some Filling) far = far
as_far w s (Some Synced) far = far
as_far w s (Some Named) far = far
as_far w s (Some Done) far = tt

-- a world in which the installation goes on
module _ (w : World) (s t : Installing) (d e : Directory) (at : IsUnderWay w s d) (same : IsSame s t) where
  named_then : w.rules ≡ Some (rules_named t.names at.missing)
  named_then = at.rules ∙ ap (λ (names : NamePair). Some (rules_named names at.missing)) (sym same.names)

  -- with what is under way as before
  goes_on : (v : World) (number : ℕ) → v.directory ≡ e → v.rules ≡ w.rules → v.under_way ≡ Some (as_under_way s number)
      → v.server.phase ≡ t.reached → IsUnderWay v t e
  goes_on v number directory rules under_way phase = record {
    directory = directory;
    missing = at.missing;
    rules = rules ∙ named_then;
    reached = λ is_open. as_far v t t.reached (record {
      number = number;
      under_way = under_way ∙ ap (λ (i : UnderWay). Some i) way;
      phase = phase;
    });
  }
    where
      way : as_under_way s number ≡ as_under_way t number
      way = ap (λ rules. let u : UnderWay = record { rules = rules; number = number; tmp = s.names.tmp } in u) (sym same.rules)
          ∙ ap (λ (names : NamePair). let u : UnderWay = record { rules = t.rules; number = number; tmp = names.tmp } in u) (sym same.names)

  -- with nothing under way: it is done, or over
  goes_off : (v : World) → v.directory ≡ e → v.rules ≡ w.rules → (t.over ≡ false → t.reached ≡ Some Done) → IsUnderWay v t e
  goes_off v directory rules ended = record {
    directory = directory;
    missing = at.missing;
    rules = rules ∙ named_then;
    reached = λ is_open. subst (λ (o : Option Phase). HasReached v t o) (sym (ended is_open)) tt;
  }

-- ---- a step that comes to its phase

-- what is under way
far_at : (w : World) (s : Installing) (reached : Option Phase) → reached ≢ None → reached ≢ Some Done → HasReached w s reached → IsAsFar w s
far_at w s None begun undone has = absurd (begun refl)
far_at w s (Some Fresh) begun undone has = has
far_at w s (Some Filling) begun undone has = has
far_at w s (Some Synced) begun undone has = has
far_at w s (Some Named) begun undone has = has
far_at w s (Some Done) begun undone has = absurd (undone refl)

some_reached : (reached : Option Phase) (patched : Bool) (next : Phase) → next_of reached patched ≡ next → next ≢ Fresh → reached ≢ None
some_reached None patched next is other none = other (sym is)
some_reached (Some phase) patched next is other none = absurd (cc)

ruled : (rules : Option RulesName) (r : RulesName) → rules ≡ Some r → is_some rules ≡ true
ruled rules r is = ap (λ (o : Option RulesName). is_some o) is

module _ (w : World) (s t : Installing) (d e : Directory) (at : IsUnderWay w s d) (may : MayStepFrom s) (same : IsSame s t) where
  far : (phase : Phase) → next_phase s ≡ phase → phase ≢ Fresh → IsAsFar w s
  far phase next other = far_at w s s.reached (some_reached s.reached s.patched phase next other) may.undone (at.reached may.is_open)

  follows_to : (phase : Phase) → next_phase s ≡ phase → Follows w.server.phase phase
  follows_to phase next = subst (λ p. Follows w.server.phase p) next (follows w s d at may)

  call_to : (phase : Phase) → next_phase s ≡ phase → (call : Call) → IsCallOf s phase call → IsCallTo phase w.under_way w.rules call
  call_to phase next call is =
      subst (λ p. IsCallTo p w.under_way w.rules call) next (calls w s d at may call (subst (λ p. IsCallOf s p call) (sym next) is))

  -- the directory after the call
  moved : (call made : Call) → call ≡ made → e ≡ after call d → after made w.directory ≡ e
  moved call made is does = ap (after made) at.directory ∙ ap (λ (c : Call). after c d) (sym is) ∙ sym does

  to_fresh : next_phase s ≡ Fresh → t.reached ≡ Some Fresh → (call : Call) → IsCallOf s Fresh call → e ≡ after call d → Arrives w t e (Ok Fresh)
  to_fresh next reached call is does =
      let v : World = record w {
        directory = after (makes s.names.tmp) w.directory;
        server = after_event w.server (Stepped Fresh);
        accepted = w.accepted ++ Some s.rules ∷ [];
        under_way = Some (as_under_way s (length w.accepted));
      } in
      let step : Step w (Stepped Fresh) v = record {
        table = stepped (follows_to Fresh next);
        moves = (s.rules, s.names.tmp, makes s.names.tmp, may.consistent.of_text, scratch_name s w.rules at.missing at.rules may.consistent.names, inl refl, refl);
      } in
      (v, step, goes_on w s t d e at same v (length w.accepted) (moved call (makes s.names.tmp) is does) refl refl (sym reached))

  to_filling : next_phase s ≡ Filling → t.reached ≡ Some Filling → (call : Call) → IsCallOf s Filling call → e ≡ after call d
      → Arrives w t e (Ok Filling)
  to_filling next reached call is does =
      let has = far Filling next (λ other. absurd (cc)) in
      let v : World = record w { directory = after call w.directory; server = after_event w.server (Stepped Filling) } in
      let step : Step w (Stepped Filling) v = record { table = stepped (follows_to Filling next); moves = (call, call_to Filling next call is, refl) } in
      (v, step, goes_on w s t d e at same v has.number (moved call call refl does) refl has.under_way (sym reached))

  -- the scratch file is whole
  is_whole : (number : ℕ) → next_phase s ≡ Synced → FitsPhase s d s.reached → IsWhole w.directory (as_under_way s number)
  is_whole number next fits =
      let has = filled_has s d next fits in
      let patched = (synced_next s.reached s.patched next).1 in
      let file : FileState = record { bytes = whole_file s.rules; synced = false } in (
        file,
        ap scratch_of at.directory ∙ has.1 ∙ ap (λ (p : Bool). let f : FileState = record { bytes = filled_file s.rules s.filled p; synced = false } in Some f) patched,
        record { of_text = may.consistent.of_text; compiled = may.consistent.written.cdb },
      )

  to_synced : next_phase s ≡ Synced → FitsPhase s d s.reached → t.reached ≡ Some Synced → (call : Call) → IsCallOf s Synced call
      → e ≡ after call d → Arrives w t e (Ok Synced)
  to_synced next fits reached call is does =
      let has = far Synced next (λ other. absurd (cc)) in
      let u = as_under_way s has.number in
      let v : World = record w { directory = after syncs w.directory; server = after_event w.server (Stepped Synced) } in
      let step : Step w (Stepped Synced) v = record {
        table = stepped (follows_to Synced next);
        moves = (u, has.under_way, ruled w.rules _ at.rules, is_whole has.number next fits, refl);
      } in
      (v, step, goes_on w s t d e at same v has.number (moved call syncs is does) refl has.under_way (sym reached))

  to_named : next_phase s ≡ Named → t.reached ≡ Some Named → (call : Call) → IsCallOf s Named call → e ≡ after call d → Arrives w t e (Ok Named)
  to_named next reached call is does =
      let has = far Named next (λ other. absurd (cc)) in
      let u = as_under_way s has.number in
      let r = rules_named s.names at.missing in
      let v : World = record w { directory = after (renames u.tmp r.name) w.directory; server = after_event w.server (Stepped Named) } in
      let step : Step w (Stepped Named) v = record { table = stepped (follows_to Named next); moves = (u, r, has.under_way, at.rules, refl) } in
      (v, step, goes_on w s t d e at same v has.number (moved call (renames s.names.tmp s.names.cdb) is does) refl has.under_way (sym reached))

  to_done : next_phase s ≡ Done → t.reached ≡ Some Done → (call : Call) → IsCallOf s Done call → e ≡ after call d → Arrives w t e (Ok Done)
  to_done next reached call is does =
      let has = far Done next (λ other. absurd (cc)) in
      let u = as_under_way s has.number in
      let v : World = record w { directory = after settles w.directory; server = after_event w.server (Stepped Done); acknowledged = max w.acknowledged u.number; under_way = None } in
      let step : Step w (Stepped Done) v = record { table = stepped (follows_to Done next); moves = (u, has.under_way, ruled w.rules _ at.rules, refl) } in
      (v, step, goes_off w s t d e at same v (moved call settles is does) refl (λ is_open. reached))

  arrives_at : (phase : Phase) → next_phase s ≡ phase → FitsPhase s d s.reached → t.reached ≡ Some phase → (call : Call)
      → IsCallOf s phase call → e ≡ after call d → Arrives w t e (Ok phase)
  arrives_at Fresh next fits reached call is does = to_fresh next reached call is does
  arrives_at Filling next fits reached call is does = to_filling next reached call is does
  arrives_at Synced next fits reached call is does = to_synced next fits reached call is does
  arrives_at Named next fits reached call is does = to_named next reached call is does
  arrives_at Done next fits reached call is does = to_done next reached call is does

  -- ---- a step that fails

  fails_at : (phase : Phase) → next_phase s ≡ phase → t.over ≡ true → (call : Call) → IsCallOf s phase call → Fails call d e
      → Arrives w t e (Err (Disk Device phase))
  fails_at phase next over call is fails =
      let v : World = record w { directory = e; server = after_event w.server (StepFailed phase); under_way = None } in
      let step : Step w (StepFailed phase) v = record {
        table = failed (follows_to phase next);
        moves = (call, call_to phase next call is, subst (λ (f : Directory). Fails call f e) (sym at.directory) fails, refl);
      } in
      (v, step, goes_off w s t d e at same v refl refl (λ is_open. absurd (cc)))

-- where nothing has changed
stays : (w : World) (s t : Installing) (d e : Directory) → t ≡ s → e ≡ d → IsUnderWay w s d → IsUnderWay w t e
stays w s t d e same here at =
    subst (λ (i : Installing). IsUnderWay w i e) (sym same) (subst (λ (f : Directory). IsUnderWay w s f) (sym here) at)

pub arrives : (s t : Installing) (d e : Directory) (result : Result Phase InstallFault) → MakesStep s t d e result → (w : World)
    → IsUnderWay w s d → Arrives w t e result
arrives s t d e (Ok phase) stepping w at =
    let goes = stepping.goes in
    let changes = stepping.changes in
    let next : next_phase s ≡ phase = sym goes.0 in
    arrives_at w s t d e at stepping.may stepping.same phase next (stepping.fits stepping.may.is_open) (goes.1 ∙ ap Some next)
    changes.0 (subst (λ p. IsCallOf s p changes.0) next changes.1) changes.2
arrives s t d e (Err (Disk Device phase)) stepping w at =
    let goes = stepping.goes in
    let changes = stepping.changes in
    let next : next_phase s ≡ phase = sym goes.0 in
    fails_at w s t d e at stepping.may stepping.same phase next goes.2 changes.0 (subst (λ p. IsCallOf s p changes.0) next changes.1) changes.2
arrives s t d e (Err (Disk NoScratch phase)) stepping w at = absurd (let device = stepping.device in cc)
arrives s t d e (Err (Disk NoName phase)) stepping w at = absurd (let device = stepping.device in cc)
arrives s t d e (Err (Disk NoMemory phase)) stepping w at = absurd (let device = stepping.device in cc)
arrives s t d e (Err OutOfMemory) stepping w at = stays w s t d e stepping.goes stepping.changes at
arrives s t d e (Err (Line fault)) stepping w at = absurd stepping.goes
arrives s t d e (Err TooLarge) stepping w at = absurd stepping.goes
arrives s t d e (Err Over) stepping w at = absurd stepping.goes
