-- Writes of the file that may be written.
use Rattle.std.proofs.Common.{◌≡◌, ⊎_elim, ℕ, true, false, List, sym, ◌∙◌, ap}
use Rattle.std.specs.Prelude.{slice_get, Option, Some, None, option_and_then}
use Rattle.std.specs.Option.{ForSome}
use Rattle.dir_calls.specs.Directory.{Directory, FileState, KeepsSynced, scratch_of}
use Rattle.dir_calls.specs.Calls.{with_scratch}
use Rattle.dir_disk.specs.DiskSteps.{rewritten_at, after_write, Spoils}
use Rattle.dir_calls.proofs.ChangedFiles.{file_is}
use Rattle.dir_calls.proofs.WithFiles.{scratch_kept, names_kept}

keeps_at : (change : FileState → FileState) (s : Option ℕ) (d : Directory) → ((file : FileState) → option_and_then (λ n. slice_get d.files n) s ≡ Some file → file.synced ≡ false) → KeepsSynced d.files (with_scratch change s d).files
keeps_at change None d unsynced = record { each = λ number file there synced. there }
keeps_at change (Some n) d unsynced = record {
  each = λ number file there synced. ⊎_elim (λ same. same) (λ other. absurd (clash file (unsynced file (ap (slice_get d.files) (sym other.0) ∙ there)) synced)) (file_is change n number d.files file there);
}
  where
    clash : (file : FileState) → file.synced ≡ false → file.synced ≡ true → ⊥
    clash file unsynced synced = cc

pub keeps_with : (change : FileState → FileState) (d : Directory) → ForSome (scratch_of d) (λ file. file.synced ≡ false) → KeepsSynced d.files (with_scratch change d.scratch d).files
keeps_with change d unsynced = keeps_at change d.scratch d unsynced

pub keeps_more : (a b c : List FileState) → KeepsSynced a b → KeepsSynced b c → KeepsSynced a c
keeps_more a b c one two = record { each = λ number file there synced. two.each number file (one.each number file there synced) synced }

pub spoils_more : (a b c : Directory) → Spoils a b → Spoils b c → Spoils a c
spoils_more a b c one two = record { names = two.names ∙ one.names; files = keeps_more a.files b.files c.files one.files two.files; scratch = two.scratch ∙ one.scratch }

pub spoils_write : (position : ℕ) (p : List ℕ) (d : Directory) → ForSome (scratch_of d) (λ file. file.synced ≡ false) → Spoils d (after_write position p d)
spoils_write position p d unsynced = record {
  names = names_kept (rewritten_at position p) d.scratch d;
  files = keeps_with (rewritten_at position p) d unsynced;
  scratch = scratch_kept (rewritten_at position p) d.scratch d;
}
