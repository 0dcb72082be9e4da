-- A scratch file that is given up, and a name that is taken away.
use Rattle.std.proofs.Common.{◌≡◌, inl, inr, ⊎_elim, ℕ, List, refl, sym, ◌∙◌, subst, ap}
use Rattle.std.specs.Prelude.{Option, None, Result, Ok, Err, OnOk, OnErr}
use Rattle.std.specs.FinMap.{get}
use Rattle.dir_calls.specs.NameTable.{NameTable, current}
use Rattle.dir_calls.specs.Directory.{Directory, FileState, KeepsSynced}
use Rattle.dir_calls.specs.Calls.{makes, closed, longer, taken_from, without}
use Rattle.dir_calls.specs.Outcomes.{Fails, LeavesNames}
use Rattle.dir_disk.specs.OsDir.{Holds, kept_back}
use Rattle.dir_disk.specs.DiskSteps.{AllOrNone}
use Rattle.dir_calls.proofs.WithFiles.{names_kept}
use Rattle.dir_disk.proofs.OsCalls.{kept_spares}

module _ {H : Type 0} (number : H → ℕ) (d f : Directory) (scratch : Option H) (written : ℕ) (pending name : List ℕ) (holds : Holds number d scratch written) (how : AllOrNone (closed d) (without (closed d) name) f) where
  named : (kept_back pending d).names ≡ d.names
  named = names_kept (longer pending) d.scratch d

  pub removal_closed : f.scratch ≡ None
  removal_closed = ⊎_elim (λ same. ap (λ (x : Directory). x.scratch) same) (λ done. ap (λ (x : Directory). x.scratch) done) how

  files : KeepsSynced (kept_back pending d).files f.files
  files = subst (λ (l : List FileState). KeepsSynced (kept_back pending d).files l)
      (sym (⊎_elim (λ same. ap (λ (x : Directory). x.files) same) (λ done. ap (λ (x : Directory). x.files) done) how))
      (kept_spares number d scratch written pending holds)

  -- as a file that is not made
  pub removal_fails : Fails (makes name) (kept_back pending d) f
  removal_fails = record { names = ⊎_elim before after how; files = files }
    where
      before : f ≡ closed d → LeavesNames (makes name) (kept_back pending d) f.names
      before same = (kept_back pending d, inl refl, ap (λ (x : Directory). x.names) same ∙ sym named)

      after : f ≡ without (closed d) name → LeavesNames (makes name) (kept_back pending d) f.names
      after done = (without (kept_back pending d) name, inr (inl refl), ap (λ (x : Directory). x.names) done ∙ ap (λ (t : NameTable). taken_from t name (get (current t) name)) (sym named))

-- whatever the disk answers, the name is taken away or not
pub unlinked : {T E : Type 0} (answer : Result T E) (m e f : Directory) (name : List ℕ) → m ≡ e → OnOk answer (f ≡ without m name) → OnErr answer (AllOrNone m (without m name) f) → AllOrNone e (without e name) f
unlinked (Ok x) m e f name same done failed = inr (done ∙ ap (λ (d : Directory). without d name) same)
unlinked (Err x) m e f name same done failed =
    ⊎_elim (λ was. inl (was ∙ same)) (λ is. inr (is ∙ ap (λ (d : Directory). without d name) same)) failed
