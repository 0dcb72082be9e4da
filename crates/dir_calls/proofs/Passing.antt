-- A call passes through the state before it and the one after it.
use Rattle.std.proofs.Common.{inl, inr, refl}
use Rattle.std.specs.Prelude.{List}
use Rattle.dir_calls.specs.Directory.{Directory, FileState, KeepsSynced}
use Rattle.dir_calls.specs.Calls.{Call, makes, renews, appends, patches, syncs, renames, settles, after}
use Rattle.dir_calls.specs.Outcomes.{Fails, LeavesNames, Passes}

pub passes_start : (call : Call) (d : Directory) → Passes call d d
passes_start (makes name) d = inl refl
passes_start (renews name) d = inl refl
passes_start (appends piece) d = inl refl
passes_start (patches position bytes) d = inl refl
passes_start syncs d = inl refl
passes_start (renames from to) d = inl refl
passes_start settles d = inl refl

pub passes_end : (call : Call) (d : Directory) → Passes call d (after call d)
passes_end (makes name) d = inr (inr refl)
passes_end (renews name) d = inr (inr (inr refl))
passes_end (appends piece) d = inr refl
passes_end (patches position bytes) d = inr refl
passes_end syncs d = inr refl
passes_end (renames from to) d = inr refl
passes_end settles d = inr refl

-- a call that fails may do nothing
same_files : (files : List FileState) → KeepsSynced files files
same_files files = record { each = λ number file is synced. is }

same_names : (call : Call) (d : Directory) → LeavesNames call d d.names
same_names settles d = record { count = 0; settled = refl; pending = refl }
same_names (makes name) d = (d, passes_start (makes name) d, refl)
same_names (renews name) d = inl (d, passes_start (renews name) d, refl)
same_names (appends piece) d = (d, passes_start (appends piece) d, refl)
same_names (patches position bytes) d = (d, passes_start (patches position bytes) d, refl)
same_names syncs d = (d, passes_start syncs d, refl)
same_names (renames from to) d = (d, passes_start (renames from to) d, refl)

pub fails_idle : (call : Call) (d : Directory) → Fails call d d
fails_idle call d = record { names = same_names call d; files = same_files d.files }
