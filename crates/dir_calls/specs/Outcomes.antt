-- What a call does, by its answer, and what a stop within it leaves.
use Rattle.std.specs.Prelude.{◌≡◌, ◌⊎◌, Result, Ok, Err}
use Rattle.dir_calls.specs.NameTable.{NameTable, SettlesSome}
use Rattle.dir_calls.specs.Directory.{Directory, KeepsSynced}
use Rattle.dir_calls.specs.Images.{IsImage}
use Rattle.dir_calls.specs.Calls.{Call, makes, renews, settles, without, cleared, after}
use Rattle.dir_calls.specs.declared.fault.DirFault.{DirFault}
use Rattle.dir_calls.specs.declared.fault.DirFault.TheVariants.{Device}

-- a state within a call: the one before it or after it; for a file that is made also the one without its name; and for
-- `renews` the one in which that is settled
abbrev pub Passes : Call → Directory → Directory → Type 0
Passes (makes name) d state = (state ≡ d) ⊎ ((state ≡ without d name) ⊎ (state ≡ after (makes name) d))
Passes (renews name) d state =
    (state ≡ d) ⊎ ((state ≡ without d name) ⊎ ((state ≡ cleared d name) ⊎ (state ≡ after (renews name) d)))
Passes call d state = (state ≡ d) ⊎ (state ≡ after call d)

-- the names of a state within a call
abbrev pub PassesNames : Call → Directory → NameTable → Type 0
PassesNames call d names = (state : Directory) × Passes call d state × (names ≡ state.names)

-- the names after a call whose device failed: those of a state within the call; of a settling, those with some changes
-- settled
abbrev pub LeavesNames : Call → Directory → NameTable → Type 0
LeavesNames settles d names = SettlesSome d.names names
LeavesNames (renews name) d names = PassesNames (renews name) d names ⊎ SettlesSome (without d name).names names
LeavesNames call d names = PassesNames call d names

-- what a call leaves if its device failed
pub record Fails (call : Call) (old new : Directory) : Type 0 where
  pub names : LeavesNames call old new.names
  pub files : KeepsSynced old.files new.files

-- what a call does, by its answer, which may say how much of the whole call was done
abbrev pub Does : {T : Type 0} → (T → Call) → Call → Directory → Directory → Result T DirFault → Type 0
Does done whole old new (Ok answer) = new ≡ after (done answer) old
Does done whole old new (Err Device) = Fails whole old new
Does done whole old new (Err fault) = new ≡ old

-- what a stop may leave within a call or right after it
abbrev pub LeftBy : Call → Directory → Directory → Directory → Type 0
LeftBy call old new image = ((state : Directory) × Passes call old state × IsImage state image) ⊎ IsImage new image
