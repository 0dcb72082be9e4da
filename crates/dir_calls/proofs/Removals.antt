-- A name that is taken away.
use Rattle.std.proofs.Common.{◌≡◌, ◌≢◌, inl, inr, ℕ, List, refl, sym, ◌∙◌, subst, ap}
use Rattle.std.specs.Prelude.{⊤, Option, Some, None, Err, cond}
use Rattle.std.specs.FinMap.{get, get-remove}
use Rattle.std.specs.Cmp.Lexicographic.{nat_list_cmp_total}
use Rattle.dir_calls.specs.NameTable.{Names, NameTable, takes, current}
use Rattle.dir_calls.specs.Directory.{Directory, KeepsSynced, number_of}
use Rattle.dir_calls.specs.Images.{IsImage}
use Rattle.dir_calls.specs.Calls.{makes, closed, taken_from, without}
use Rattle.dir_calls.specs.Outcomes.{Fails, LeftBy}
use Rattle.dir_calls.specs.Lasting.{LastsAmong, HasAmong}
use Rattle.dir_calls.specs.Moments.{Elapses}
use Rattle.dir_calls.specs.Replacing.{Stays}
use Rattle.dir_calls.specs.declared.fault.DirFault.TheVariants.{Device}
use Rattle.dir_calls.specs.declared.dir.Dir.{Ghosts}
use Rattle.dir_calls.proofs.Lasting.{image_has, makes_keeps}
use Rattle.dir_calls.proofs.Moments.{started}
use Rattle.dir_calls.proofs.NamesOf.{get-remove_other, same_name-self}
use Rattle.dir_calls.proofs.NameTables.{current-push}
use Rattle.dir_calls.proofs.Replacing.{stays_call}

-- a name that is taken away is none, and each other one is as it was
pub gone : (d : Directory) (name : List ℕ) → number_of (without d name) name ≡ None
gone d name = by (number_of d name) refl
  where
    by : (o : Option ℕ) → number_of d name ≡ o → get (current (taken_from d.names name o)) name ≡ None
    by None is = is
    by (Some n) is =
        ap (λ (m : Names). get m name) (current-push d.names (takes name)) ∙ get-remove nat_list_cmp_total (current d.names) name name
        ∙ ap (λ r. cond r None (get (current d.names) name)) (same_name-self name)

pub apart : (names : NameTable) (name other : List ℕ) → name ≢ other → (o : Option ℕ) → get (current (taken_from names name o)) other ≡ get (current names) other
apart names name other differ None = refl
apart names name other differ (Some n) =
    ap (λ (m : Names). get m other) (current-push names (takes name)) ∙ get-remove_other (current names) other name (λ same. differ (sym same))

-- as a file that is not made
pub taken_fails : (d e : Directory) (name : List ℕ) → e ≡ closed (without d name) → Fails (makes name) d e
taken_fails d e name taken = record {
  names = (without d name, inr (inl refl), ap (λ (x : Directory). x.names) taken);
  files = subst (λ (x : Directory). KeepsSynced d.files x.files) (sym taken) (record { each = λ number file is synced. is });
}

-- what lasts under another name
pub removal_stays : {D F : Type 0} (tells : Ghosts D F) (name other : List ℕ) (contents : List (Option (List ℕ))) (old new : D) → name ≢ other → LastsAmong (tells.state old) other contents
    → ((image : Directory) → tells.left_since old (tells.moment old) image → IsImage (tells.state old) image)
    → Elapses (tells.moment old) (tells.moment new) (tells.left_since old) (tells.left_since new) (LeftBy (makes name) (tells.state old) (tells.state new))
    → Fails (makes name) (tells.state old) (tells.state new)
    → Stays tells other contents old new
removal_stays tells name other contents old new differ lasts only time fails =
    let keeps = makes_keeps (tells.state old) other contents lasts name (λ same. differ (sym same)) in
    stays_call tells other contents old new (λ (_ : ⊤). makes name) (makes name) (Err Device) only time fails keeps (λ _. keeps)

-- where nothing is done
pub idle_stays : {D F : Type 0} (tells : Ghosts D F) (other : List ℕ) (contents : List (Option (List ℕ))) (dir : D) → LastsAmong (tells.state dir) other contents
    → ((image : Directory) → tells.left_since dir (tells.moment dir) image → IsImage (tells.state dir) image)
    → Stays tells other contents dir dir
idle_stays tells other contents dir lasts only = record {
  lasts = lasts;
  any_moment = started tells.moment tells.left_since dir (HasAmong other contents) (λ image left. image_has (tells.state dir) image other contents lasts (only image left));
}
