-- A series of steps, one step longer.
use Rattle.std.proofs.Common.{◌≡◌, List, [], ◌∷◌, ◌++◌, refl, sym, ap, subst, append-nil}
use Rattle.std.specs.Prelude.{Result, Ok, Err}
use Rattle.dir_calls.specs.Directory.{Directory}
use Rattle.dir_calls.specs.declared.fault.DirFault.TheVariants.{NoScratch, NoName, Device, OutOfMemory as NoMemory}
use Rattle.rules_install.specs.Installing.{Installing, next_phase}
use Rattle.rules_install.specs.Series.{ComesTo, IsSeries, further, none as no_steps}
use Rattle.rules_install.specs.Steps.{Goes, IsOfDevice}
use Rattle.dir_calls.specs.declared.phase.Phase.{Phase}
use Rattle.rules_install.specs.declared.fault.InstallFault.{InstallFault}
use Rattle.rules_install.specs.declared.fault.InstallFault.TheVariants.{Line, TooLarge, Disk, Over, OutOfMemory}
use Rattle.headline.specs.Steps.{Legal, none, more}
use Rattle.headline.specs.Worlds.{World}
use Rattle.server_events.specs.declared.event.Event.{Event}
use Rattle.server_events.specs.declared.event.Event.TheVariants.{Stepped}
use Rattle.headline.proofs.InstalledRuns.{legal_then}
use Rattle.whole_yard.specs.Series.{LeadsAlong, stepped_to}
use Rattle.whole_yard.specs.UnderWay.{IsUnderWay, StepLeads}
use Rattle.whole_yard.proofs.Leading.{arrives}

-- steps that came to some phases
pub record ComesAlong (w : World) (t : Installing) (e : Directory) : Type 0 where
  pub phases : List Phase
  pub v : World
  pub legal : Legal w (stepped_to phases) v
  pub there : IsUnderWay v t e

pub no_step : (w : World) (s : Installing) (d : Directory) → IsUnderWay w s d → ComesAlong w s d
no_step w s d at = record { phases = []; v = w; legal = none; there = at }

stepped-push : (phases : List Phase) (phase : Phase) → stepped_to (phases ++ phase ∷ []) ≡ stepped_to phases ++ Stepped phase ∷ []
stepped-push [] phase = refl
stepped-push (p ∷ phases) phase = ap (λ (es : List Event). Stepped p ∷ es) (stepped-push phases phase)

module _ (w : World) (s t : Installing) (d e : Directory) (far : ComesAlong w s d) where
  -- one more that came to its phase
  pub comes_further : (phase : Phase) → StepLeads s t d e (Ok phase) → ComesAlong w t e
  comes_further phase leads =
      let next = leads far.v far.there in
      record {
        phases = far.phases ++ phase ∷ [];
        v = next.0;
        legal = subst (λ (es : List Event). Legal w es next.0) (sym (stepped-push far.phases phase)) (legal_then far.legal (more next.1 none));
        there = next.2;
      }

  -- where nothing has happened
  stays_there : (v : World) → IsUnderWay far.v t e → Legal w (stepped_to far.phases ++ []) far.v
  stays_there v at = subst (λ (es : List Event). Legal w es far.v) (sym (append-nil (stepped_to far.phases))) far.legal

  -- one that failed
  pub ends_failed : (next : Phase) (fault : InstallFault) → Goes next s t (Err fault) → IsOfDevice (Err fault)
      → StepLeads s t d e (Err fault) → LeadsAlong w t e (Err fault)
  ends_failed next (Disk Device phase) goes device leads =
      let end = leads far.v far.there in
      record { phases = far.phases; v = end.0; legal = legal_then far.legal (more end.1 none); there = end.2 }
  ends_failed next (Disk NoScratch phase) goes device leads = absurd (cc)
  ends_failed next (Disk NoName phase) goes device leads = absurd (cc)
  ends_failed next (Disk NoMemory phase) goes device leads = absurd (cc)
  ends_failed next OutOfMemory goes device leads =
      let at = leads far.v far.there in
      record { phases = far.phases; v = far.v; legal = stays_there far.v at; there = at }
  ends_failed next (Line fault) goes device leads = absurd goes
  ends_failed next TooLarge goes device leads = absurd goes
  ends_failed next Over goes device leads = absurd goes

-- the last one
pub ends_along : (w : World) (t : Installing) (e : Directory) → ComesAlong w t e → LeadsAlong w t e (Ok tt)
ends_along w t e far = record {
  phases = far.phases;
  v = far.v;
  legal = subst (λ (es : List Event). Legal w es far.v) (sym (append-nil (stepped_to far.phases))) far.legal;
  there = far.there;
}

-- ---- the steps of a run

along : {s t : Installing} {d e : Directory} → ComesTo s d t e → (w : World) → IsUnderWay w s d → ComesAlong w t e
along no_steps w at = no_step w _ _ at
along (further far makes) w at = comes_further w _ _ _ _ (along far w at) _ (arrives _ _ _ _ _ makes)

pub leads_along : (s t : Installing) (d e : Directory) (result : Result (Unit {0}) InstallFault) → IsSeries s t d e result → (w : World)
    → IsUnderWay w s d → LeadsAlong w t e result
leads_along s t d e (Ok done) far w at = ends_along w t e (along far w at)
leads_along s t d e (Err fault) (u, f, far, makes) w at =
    ends_failed w u t f e (along far w at) (next_phase u) fault makes.goes makes.device (arrives u t f e (Err fault) makes)
