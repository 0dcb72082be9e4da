-- What a stop since a step of an installation began leaves of a world in which it is under way.
use Rattle.std.proofs.Common.{inl, inr, ⊎_elim, sym, subst, arith}
use Rattle.dir_calls.specs.Calls.{Call}
use Rattle.dir_calls.specs.Directory.{Directory}
use Rattle.dir_calls.specs.Images.{IsImage}
use Rattle.dir_calls.specs.Outcomes.{Passes}
use Rattle.dir_calls.specs.declared.dir.Dir.{Ghosts}
use Rattle.rules_install.specs.Installing.{Installing, next_phase}
use Rattle.rules_install.specs.Steps.{IsCallOf, StepStops}
use Rattle.headline.specs.Steps.{MayBeAt}
use Rattle.headline.specs.Worlds.{World}
use Rattle.rules_install.specs.Series.{MayStepFrom}
use Rattle.whole_yard.specs.UnderWay.{IsUnderWay, Leaves}
use Rattle.whole_yard.proofs.Meeting.{calls, follows}

-- a moment within the call of its next step
pub may_be_at : (w : World) (s : Installing) (d : Directory) (call : Call) (state : Directory) → IsUnderWay w s d → MayStepFrom s
    → IsCallOf s (next_phase s) call → Passes call d state → MayBeAt w state
may_be_at w s d call state at may is passes =
    inr (next_phase s, call, follows w s d at may, calls w s d at may call is, subst (λ (f : Directory). Passes call f state) (sym at.directory) passes)

module _ {D F : Type 0} (tells : Ghosts D F) (s : Installing) (old new : D) where
  pub leaves : ((image : Directory) → tells.left_since old (tells.moment old) image → IsImage (tells.state old) image) → MayStepFrom s
      → StepStops tells (next_phase s) s old new → Leaves tells s old new
  leaves only may stops = λ w image at left.
      ⊎_elim
      (λ earlier. inl (tells.state old, inl (sym at.directory), only image earlier))
      (λ within. ⊎_elim (λ passing. inl (passing.0, may_be_at w s (tells.state old) stops.call passing.0 at may stops.is_call passing.1, passing.2)) (λ after. inr after) within)
      (stops.time.nothing_else (tells.moment old) image (omega arith) left)
