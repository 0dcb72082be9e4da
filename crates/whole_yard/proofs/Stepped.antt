-- A step of the installation that a yard keeps is one of each world that is the yard's.
use Rattle.std.proofs.Common.{◌≡◌, ◌≢◌, ℕ, List, [], ◌∷◌, ◌++◌, length, false, Option, None, Some, refl, sym, ap, subst, ◌∙◌}
use Rattle.std.specs.Prelude.{Ok, Err, Result}
use Rattle.dir_calls.specs.Directory.{Directory}
use Rattle.dir_calls.specs.declared.fault.DirFault.TheVariants.{NoScratch, NoName, Device, OutOfMemory as NoMemory}
use Rattle.whole_yard.specs.UnderWay.{HasReached, IsAsFar, IsUnderWay, rules_named}
use Rattle.whole_yard.specs.UnderWay as way
use Rattle.rule_lookup.specs.Pairs.{Rule}
use Rattle.rules_install.specs.Installing.{Installing}
use Rattle.rules_install.specs.Steps.{Goes, IsOfDevice}
use Rattle.dir_calls.specs.declared.phase.Phase.{Phase}
use Rattle.dir_calls.specs.declared.phase.Phase.TheVariants.{Fresh, Filling, Synced, Named, Done}
use Rattle.rules_install.specs.declared.fault.InstallFault.{InstallFault}
use Rattle.rules_install.specs.declared.fault.InstallFault.TheVariants.{Line, TooLarge, Disk, Over, OutOfMemory}
use Rattle.server_events.specs.ServerState.{ServerState, after}
use Rattle.headline.specs.Steps.{Advances, FailsTo, Step}
use Rattle.headline.specs.Worlds.{KeptFile, RulesName, UnderWay, World}
use Rattle.server_events.specs.declared.event.Event.{Event}
use Rattle.server_events.specs.declared.event.Event.TheVariants.{Stepped, StepFailed}
use Rattle.server_events.proofs.Effects.{step_is}
use Rattle.whole_yard.specs.Standing.{HasUnderWay, LeadsSome, Matches, YardState}
use Rattle.whole_yard.specs.Stepping.{kept_then as kept_after, step_event}

-- what a step of an installation leaves of a world beside its directory
pub record Leaves (w v : World) : Type 0 where
  pub rules : v.rules ≡ w.rules
  pub kept : v.kept ≡ w.kept

leaves_by : (w v u : World) → v ≡ u → u.rules ≡ w.rules → u.kept ≡ w.kept → Leaves w v
leaves_by w v u is rules kept = record { rules = ap (λ (x : World). x.rules) is ∙ rules; kept = ap (λ (x : World). x.kept) is ∙ kept }

advanced : (p : Phase) (w v : World) → Advances p w v → Leaves w v
advanced Fresh w v moves = leaves_by w v _ moves.6 refl refl
advanced Filling w v moves = leaves_by w v _ moves.2 refl refl
advanced Synced w v moves = leaves_by w v _ moves.4 refl refl
advanced Named w v moves = leaves_by w v _ moves.4 refl refl
advanced Done w v moves = leaves_by w v _ moves.3 refl refl

failed : (p : Phase) (w v : World) → FailsTo p w v → Leaves w v
failed p w v moves = leaves_by w v _ moves.3 refl refl

done_idle : (w v : World) → Advances Done w v → v.under_way ≡ None
done_idle w v moves = ap (λ (x : World). x.under_way) moves.3

failed_idle : (p : Phase) (w v : World) → FailsTo p w v → v.under_way ≡ None
failed_idle p w v moves = ap (λ (x : World). x.under_way) moves.3

-- an installation that reached a phase before the last is under way as far as it has come
as_far : (v : World) (t : Installing) (p : Phase) → p ≢ Done → t.reached ≡ Some p → HasReached v t t.reached → IsAsFar v t
as_far v t Fresh undone is has = subst (λ (o : Option Phase). HasReached v t o) is has
as_far v t Filling undone is has = subst (λ (o : Option Phase). HasReached v t o) is has
as_far v t Synced undone is has = subst (λ (o : Option Phase). HasReached v t o) is has
as_far v t Named undone is has = subst (λ (o : Option Phase). HasReached v t o) is has
as_far v t Done undone is has = absurd (undone refl)

-- the other way round
has_reached : (w : World) (s : Installing) (o : Option Phase) → IsAsFar w s → HasReached w s o
has_reached w s None far = tt
has_reached w s (Some Fresh) far = far
has_reached w s (Some Filling) far = far
has_reached w s (Some Synced) far = far
has_reached w s (Some Named) far = far
has_reached w s (Some Done) far = tt

-- a world goes on by a step of an installation: what it has then
pub record GoesOn (w v : World) (event : Event) (e : Directory) (kept_then : Option Installing) : Type 0 where
  pub step : Step w event v
  pub directory : v.directory ≡ e
  pub rules : v.rules ≡ w.rules
  pub kept : v.kept ≡ w.kept
  pub server : v.server ≡ after w.server event
  pub under : HasUnderWay v kept_then

module _ (w : World) (s t : Installing) (d e : Directory) (at : IsUnderWay w s d) where
  pub stepped : (p : Phase) → t.over ≡ false → t.reached ≡ Some p → way.StepLeads s t d e (Ok p) → (v : World)
      × GoesOn w v (Stepped p) e (kept_after t (Ok p))
  stepped p is_open reached leads =
      let next = leads w at in
      let v = next.0 in
      let rest = advanced p w v next.1.moves in (
        v,
        record {
          step = next.1;
          directory = next.2.directory;
          rules = rest.rules;
          kept = rest.kept;
          server = (step_is next.1.table).1;
          under = by p v next.1.moves next.2 reached;
        },
      )
    where
      by : (p : Phase) (v : World) → Advances p w v → IsUnderWay v t e → t.reached ≡ Some p → HasUnderWay v (kept_after t (Ok p))
      by Fresh v moves there reached = as_far v t Fresh (λ x. absurd (cc)) reached (there.reached is_open)
      by Filling v moves there reached = as_far v t Filling (λ x. absurd (cc)) reached (there.reached is_open)
      by Synced v moves there reached = as_far v t Synced (λ x. absurd (cc)) reached (there.reached is_open)
      by Named v moves there reached = as_far v t Named (λ x. absurd (cc)) reached (there.reached is_open)
      by Done v moves there reached = done_idle w v moves

  pub step_failed : (p : Phase) → way.StepLeads s t d e (Err (Disk Device p)) → (v : World) × GoesOn w v (StepFailed p) e None
  step_failed p leads =
      let next = leads w at in
      let v = next.0 in
      let rest = failed p w v next.1.moves in (
        v,
        record {
          step = next.1;
          directory = next.2.directory;
          rules = rest.rules;
          kept = rest.kept;
          server = (step_is next.1.table).1;
          under = failed_idle p w v next.1.moves;
        },
      )

-- the rules of what is under way
abbrev rules_in : Option UnderWay → List Rule
rules_in None = []
rules_in (Some u) = u.rules

-- what the texts are that are accepted after a step
same_rules : (v : World) (rules : List Rule) (number : ℕ) (tmp : List ℕ) (t : Installing)
    → v.under_way ≡ Some (record { rules = rules; number = number; tmp = tmp }) → IsAsFar v t → rules ≡ t.rules
same_rules v rules number tmp t is far = ap rules_in (sym is ∙ far.under_way)

pub accepted_fresh : (w v : World) (t : Installing) → Advances Fresh w v → IsAsFar v t → v.accepted ≡ w.accepted ++ Some t.rules ∷ []
accepted_fresh w v t moves far =
    let is = moves.6 in
    let own = same_rules v moves.0 (length w.accepted) moves.1 t (ap (λ (x : World). x.under_way) is) far in
    ap (λ (x : World). x.accepted) is ∙ ap (λ (rules : List Rule). w.accepted ++ Some rules ∷ []) own

pub accepted_other : (p : Phase) (w v : World) → p ≢ Fresh → Advances p w v → v.accepted ≡ w.accepted
accepted_other Fresh w v other moves = absurd (other refl)
accepted_other Filling w v other moves = ap (λ (x : World). x.accepted) moves.2
accepted_other Synced w v other moves = ap (λ (x : World). x.accepted) moves.4
accepted_other Named w v other moves = ap (λ (x : World). x.accepted) moves.4
accepted_other Done w v other moves = ap (λ (x : World). x.accepted) moves.3

pub accepted_failed : (p : Phase) (w v : World) → FailsTo p w v → v.accepted ≡ w.accepted
accepted_failed p w v moves = ap (λ (x : World). x.accepted) moves.3

-- ---- a world that has a directory, a rules name, and an installation

rules_are : (rules : Option RulesName) (s : Installing) (r : RulesName) → rules ≡ Some r → s.names.cdb ≡ r.name
    → rules ≡ Some (rules_named s.names r.missing)
rules_are rules s r is name = is ∙ ap (λ (n : List ℕ). let x : RulesName = record { name = n; missing = r.missing } in Some x) (sym name)

pub has_kept : (w : World) (d : Directory) (rules : Option RulesName) (s : Installing) (r : RulesName) → w.directory ≡ d → w.rules ≡ rules
    → rules ≡ Some r → s.names.cdb ≡ r.name → IsAsFar w s → IsUnderWay w s d
has_kept w d rules s r directory ruled is name far = record {
  directory = directory;
  missing = r.missing;
  rules = ruled ∙ rules_are rules s r is name;
  reached = λ is_open. has_reached w s s.reached far;
}

-- one that is not begun
pub has_new : (w : World) (d : Directory) (rules : Option RulesName) (s : Installing) (r : RulesName) → w.directory ≡ d → w.rules ≡ rules
    → rules ≡ Some r → s.names.cdb ≡ r.name → s.reached ≡ None → IsUnderWay w s d
has_new w d rules s r directory ruled is name unbegun = record {
  directory = directory;
  missing = r.missing;
  rules = ruled ∙ rules_are rules s r is name;
  reached = λ is_open. subst (λ (o : Option Phase). HasReached w s o) (sym unbegun) tt;
}

-- ---- and so each world that is the yard's

-- a yard goes on by a step: what it has then
pub record StepsTo (y z : YardState) (event : Event) (kept_then : Option Installing) : Type 0 where
  pub happens : z.server ≡ after y.server event
  pub rules : z.rules ≡ y.rules
  pub installing : z.installing ≡ kept_then

pub matches_on : (y z : YardState) (event : Event) (kept_then : Option Installing) (files : List KeptFile) (w v : World)
    → StepsTo y z event kept_then → Matches y files w → GoesOn w v event z.directory kept_then → Matches z files v
matches_on y z event kept_then files w v to at on = record {
  directory = on.directory;
  rules = on.rules ∙ at.rules ∙ sym to.rules;
  server = on.server ∙ ap (λ (x : ServerState). after x event) at.server ∙ sym to.happens;
  installing = subst (λ (o : Option Installing). HasUnderWay v o) (sym to.installing) on.under;
  kept = on.kept ∙ at.kept;
}

-- each world that is the yard's has the installation under way
abbrev pub HasIt : YardState → Installing → Type 0
HasIt y s = (files : List KeptFile) (w : World) → Matches y files w → IsUnderWay w s y.directory

pub it_kept : (y : YardState) (s : Installing) (r : RulesName) → y.rules ≡ Some r → s.names.cdb ≡ r.name → y.installing ≡ Some s → HasIt y s
it_kept y s r rules name installing files w at =
    has_kept w y.directory y.rules s r at.directory at.rules rules name (subst (λ (o : Option Installing). HasUnderWay w o) installing at.installing)

pub it_new : (y : YardState) (s : Installing) (r : RulesName) → y.rules ≡ Some r → s.names.cdb ≡ r.name → s.reached ≡ None → HasIt y s
it_new y s r rules name unbegun files w at = has_new w y.directory y.rules s r at.directory at.rules rules name unbegun

-- a step leads on, by its answer: the phase that it reached, or one that it could not reach, or nothing
pub step_leads : (y z : YardState) (s t : Installing) (next : Phase) (result : Result Phase InstallFault) → HasIt y s → Goes next s t result
    → IsOfDevice result
    → way.StepLeads s t y.directory z.directory result
    → ((event : Event) → step_event result ≡ Some event → StepsTo y z event (kept_after t result)) → (step_event result ≡ None → z ≡ y)
    → LeadsSome (step_event result) y z
step_leads y z s t next (Ok p) has goes device leads to same = λ files w at.
    let moved = stepped w s t y.directory z.directory (has files w at) p goes.2 (goes.1 ∙ ap (λ (q : Phase). Some q) (sym goes.0)) leads in
    (moved.0, moved.1.step, matches_on y z (Stepped p) (kept_after t (Ok p)) files w moved.0 (to (Stepped p) refl) at moved.1)
step_leads y z s t next (Err (Disk Device p)) has goes device leads to same = λ files w at.
    let moved = step_failed w s t y.directory z.directory (has files w at) p leads in
    (moved.0, moved.1.step, matches_on y z (StepFailed p) None files w moved.0 (to (StepFailed p) refl) at moved.1)
step_leads y z s t next (Err (Disk NoScratch p)) has goes device leads to same = absurd (cc)
step_leads y z s t next (Err (Disk NoName p)) has goes device leads to same = absurd (cc)
step_leads y z s t next (Err (Disk NoMemory p)) has goes device leads to same = absurd (cc)
step_leads y z s t next (Err (Line fault)) has goes device leads to same = same refl
step_leads y z s t next (Err TooLarge) has goes device leads to same = same refl
step_leads y z s t next (Err Over) has goes device leads to same = same refl
step_leads y z s t next (Err OutOfMemory) has goes device leads to same = same refl
