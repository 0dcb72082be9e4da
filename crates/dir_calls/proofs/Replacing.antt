-- What stays under a name in a run of calls.
use Rattle.std.proofs.Common.{inl, inr, ⊎_elim, ℕ, List, arith}
use Rattle.std.specs.Prelude.{Option, Result}
use Rattle.dir_calls.specs.declared.fault.DirFault.{DirFault}
use Rattle.dir_calls.specs.Directory.{Directory, content}
use Rattle.dir_calls.specs.Images.{IsImage}
use Rattle.dir_calls.specs.Calls.{Call}
use Rattle.dir_calls.specs.Outcomes.{Does, LeftBy}
use Rattle.dir_calls.specs.Lasting.{IsAmong, LastsAmong, HasAmong}
use Rattle.dir_calls.specs.Moments.{Elapses}
use Rattle.dir_calls.specs.Replacing.{Stays}
use Rattle.dir_calls.specs.declared.dir.Dir.{Ghosts}
use Rattle.dir_calls.proofs.Lasting.{CallKeeps, image_has, left_has, does_lasts, passes_lasts, lasts_more}
use Rattle.dir_calls.proofs.Moments.{one_call}
use Rattle.dir_calls.proofs.Passing.{passes_start}

module _ {D F : Type 0} (tells : Ghosts D F) (name : List ℕ) (contents : List (Option (List ℕ))) where
  -- one call, whatever it answers
  pub stays_call : {T : Type 0} (old new : D) (done : T → Call) (whole : Call) (outcome : Result T DirFault)
      → ((image : Directory) → tells.left_since old (tells.moment old) image → IsImage (tells.state old) image)
      → Elapses (tells.moment old) (tells.moment new) (tells.left_since old) (tells.left_since new) (LeftBy whole (tells.state old) (tells.state new))
      → Does done whole (tells.state old) (tells.state new) outcome
      → CallKeeps whole (tells.state old) name contents → ((x : T) → CallKeeps (done x) (tells.state old) name contents)
      → Stays tells name contents old new
  stays_call old new done whole outcome only time does keeps part = record {
    lasts = lasts;
    any_moment = one_call tells.moment tells.left_since old new (HasAmong name contents) (LeftBy whole (tells.state old) (tells.state new)) (IsImage (tells.state old)) only
        (λ image is. image_has (tells.state old) image name contents (passes_lasts whole (tells.state old) (tells.state old) name contents keeps (passes_start whole (tells.state old))) is)
        time (λ image left. left_has whole (tells.state old) (tells.state new) image name contents keeps lasts left);
  }
    where
      lasts : LastsAmong (tells.state new) name contents
      lasts = does_lasts done whole (tells.state old) (tells.state new) outcome name contents does keeps part

  -- one run and then another
  pub stays_then : (old mid new : D) → Stays tells name contents old mid → Stays tells name contents mid new → Stays tells name contents old new
  stays_then old mid new first second = record {
    lasts = second.lasts;
    any_moment = record {
      later = omega (arith, first.any_moment.later, second.any_moment.later);
      each = λ image left. ⊎_elim (first.any_moment.each image) (λ has. has) (second.any_moment.before (tells.moment old) image first.any_moment.later left);
      before = λ earlier image le left. ⊎_elim (first.any_moment.before earlier image le) (λ has. inr has) (second.any_moment.before earlier image (omega (arith, le, first.any_moment.later)) left);
    };
  }

  -- a run and then one call
  pub stays_on : {T : Type 0} (old mid new : D) (done : T → Call) (whole : Call) (outcome : Result T DirFault)
      → Stays tells name contents old mid
      → ((image : Directory) → tells.left_since mid (tells.moment mid) image → IsImage (tells.state mid) image)
      → Elapses (tells.moment mid) (tells.moment new) (tells.left_since mid) (tells.left_since new) (LeftBy whole (tells.state mid) (tells.state new))
      → Does done whole (tells.state mid) (tells.state new) outcome
      → CallKeeps whole (tells.state mid) name contents → ((x : T) → CallKeeps (done x) (tells.state mid) name contents)
      → Stays tells name contents old new
  stays_on old mid new done whole outcome so_far only time does keeps part = stays_then old mid new so_far (stays_call mid new done whole outcome only time does keeps part)

  -- more may stand there
  pub stays_more : (more : List (Option (List ℕ))) (old new : D) → ((w : Option (List ℕ)) → IsAmong contents w → IsAmong more w) → Stays tells name contents old new → Stays tells name more old new
  stays_more more old new to stays = record {
    lasts = lasts_more (tells.state new) name contents more to stays.lasts;
    any_moment = record {
      later = stays.any_moment.later;
      each = λ image left. to (content image name) (stays.any_moment.each image left);
      before = λ earlier image le left. ⊎_elim (λ past. inl past) (λ has. inr (to (content image name) has)) (stays.any_moment.before earlier image le left);
    };
  }
