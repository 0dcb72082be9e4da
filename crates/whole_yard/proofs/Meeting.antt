-- The next step of an installation is one that its world may take.
use Rattle.std.proofs.Common.{◌≡◌, ◌≢◌, inl, Bool, true, false, refl, sym, ◌∙◌, subst}
use Rattle.std.specs.Prelude.{Option, None, Some}
use Rattle.dir_calls.specs.Calls.{Call}
use Rattle.dir_calls.specs.Directory.{Directory}
use Rattle.rule_lookup.specs.declared.decision.WhenMissing.{WhenMissing}
use Rattle.rules_install.specs.Installing.{Installing, next_of, next_phase}
use Rattle.rules_install.specs.Steps.{IsCallOf}
use Rattle.dir_calls.specs.declared.phase.Phase.{Phase}
use Rattle.dir_calls.specs.declared.phase.Phase.TheVariants.{Fresh, Filling, Synced, Named, Done}
use Rattle.headline.specs.Steps.{IsCallTo, IsScratchName}
use Rattle.server_events.specs.ServerState.{Follows, fresh, filling, filling_on, synced, named, done}
use Rattle.headline.specs.Worlds.{RulesName, UnderWay, World}
use Rattle.rules_install.specs.Series.{MayStepFrom}
use Rattle.whole_yard.specs.UnderWay.{HasReached, IsUnderWay, rules_named}

-- the phase may come next
follows_at : (w : World) (s : Installing) (reached : Option Phase) (patched : Bool) → (reached ≡ Some Fresh → patched ≡ false)
    → reached ≢ Some Done → s.reached ≡ reached → HasReached w s reached → Follows w.server.phase (next_of reached patched)
follows_at w s None patched unfilled undone is has = fresh
follows_at w s (Some Fresh) true unfilled undone is has = absurd (let never = unfilled refl in cc)
follows_at w s (Some Fresh) false unfilled undone is has = subst (λ (o : Option Phase). Follows o Filling) (sym (has.phase ∙ is)) filling
follows_at w s (Some Filling) true unfilled undone is has = subst (λ (o : Option Phase). Follows o Synced) (sym (has.phase ∙ is)) synced
follows_at w s (Some Filling) false unfilled undone is has = subst (λ (o : Option Phase). Follows o Filling) (sym (has.phase ∙ is)) filling_on
follows_at w s (Some Synced) patched unfilled undone is has = subst (λ (o : Option Phase). Follows o Named) (sym (has.phase ∙ is)) named
follows_at w s (Some Named) patched unfilled undone is has = subst (λ (o : Option Phase). Follows o Done) (sym (has.phase ∙ is)) done
follows_at w s (Some Done) patched unfilled undone is has = absurd (undone refl)

pub follows : (w : World) (s : Installing) (d : Directory) → IsUnderWay w s d → MayStepFrom s → Follows w.server.phase (next_phase s)
follows w s d at may =
    follows_at w s s.reached s.patched (λ is. (may.consistent.unfilled is).1) may.undone refl (at.reached may.is_open)

-- a call of the installation that a world has under way
pub call_into : (phase : Phase) (under_way : Option UnderWay) (rules : Option RulesName) (u : UnderWay) (r : RulesName) (call : Call)
    → under_way ≡ Some u → rules ≡ Some r → IsCallTo phase (Some u) (Some r) call → IsCallTo phase under_way rules call
call_into phase under_way rules u r call way ruled is =
    subst (λ (o : Option UnderWay). IsCallTo phase o rules call) (sym way) (subst (λ (o : Option RulesName). IsCallTo phase (Some u) o call) (sym ruled) is)

-- the name of its scratch file is not the rules name
pub scratch_name : (s : Installing) (rules : Option RulesName) (missing : WhenMissing) → rules ≡ Some (rules_named s.names missing)
    → s.names.cdb ≢ s.names.tmp → IsScratchName rules s.names.tmp
scratch_name s rules missing ruled differ =
    subst (λ (o : Option RulesName). IsScratchName o s.names.tmp) (sym ruled) (λ same. differ (sym same))

calls_at : (w : World) (s : Installing) (missing : WhenMissing) (reached : Option Phase) (patched : Bool)
    → w.rules ≡ Some (rules_named s.names missing) → s.names.cdb ≢ s.names.tmp → reached ≢ Some Done → HasReached w s reached
    → (call : Call) → IsCallOf s (next_of reached patched) call → IsCallTo (next_of reached patched) w.under_way w.rules call
calls_at w s missing None patched ruled differ undone has call is = (s.names.tmp, scratch_name s w.rules missing ruled differ, inl is)
calls_at w s missing (Some Fresh) true ruled differ undone has call is = call_into Synced w.under_way w.rules _ _ call has.under_way ruled is
calls_at w s missing (Some Fresh) false ruled differ undone has call is = call_into Filling w.under_way w.rules _ _ call has.under_way ruled is
calls_at w s missing (Some Filling) true ruled differ undone has call is = call_into Synced w.under_way w.rules _ _ call has.under_way ruled is
calls_at w s missing (Some Filling) false ruled differ undone has call is = call_into Filling w.under_way w.rules _ _ call has.under_way ruled is
calls_at w s missing (Some Synced) patched ruled differ undone has call is = call_into Named w.under_way w.rules _ _ call has.under_way ruled is
calls_at w s missing (Some Named) patched ruled differ undone has call is = call_into Done w.under_way w.rules _ _ call has.under_way ruled is
calls_at w s missing (Some Done) patched ruled differ undone has call is = absurd (undone refl)

pub calls : (w : World) (s : Installing) (d : Directory) → IsUnderWay w s d → MayStepFrom s → (call : Call) → IsCallOf s (next_phase s) call
    → IsCallTo (next_phase s) w.under_way w.rules call
calls w s d at may call is = calls_at w s at.missing s.reached s.patched at.rules may.consistent.names may.undone (at.reached may.is_open) call is
