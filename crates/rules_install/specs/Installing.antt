-- An installation under way, and the directory as its steps leave it.
use Rattle.std.specs.Prelude.{◌≡◌, ◌≢◌, ◌<◌, ⊤, ℕ, Bool, true, false, List, [], ◌∷◌, slice_get, Option, None, Some, option_and_then}
use Rattle.std.specs.FinMap.{get}
use Rattle.dir_calls.specs.NameTable.{Names, CanBeLeft}
use Rattle.dir_calls.specs.Directory.{Directory, FileState, number_of, scratch_of, file_at}
use Rattle.dir_calls.specs.Lasting.{LastsAmong}
use Rattle.rule_lookup.specs.Pairs.{Rule}
use Rattle.rule_lines.specs.Texts.{AreOfText}
use Rattle.rules_install.specs.NamePair.{NamePair}
use Rattle.rules_install.specs.Filled.{IsWritten, whole_file, filled_file, fillings_left}
use Rattle.dir_calls.specs.declared.phase.Phase.{Phase}
use Rattle.dir_calls.specs.declared.phase.Phase.TheVariants.{Fresh, Filling, Synced, Named, Done}

pub record Installing : Type 0 where
  pub rules : List Rule
  pub names : NamePair
  -- how many bytes were appended to the scratch file, and whether the pointers were put in place
  pub filled : ℕ
  pub patched : Bool
  -- the last phase that a step answered
  pub reached : Option Phase
  -- whether a step answered a fault of the directory
  pub over : Bool

-- the installation before its first step
abbrev pub begun : List Rule → NamePair → Installing
begun rules names = record { rules = rules; names = names; filled = 0; patched = false; reached = None; over = false }

-- the phase to be reached next; the file has its pointers or not
abbrev pub after_filling : Bool → Phase
after_filling true = Synced
after_filling false = Filling

abbrev pub next_of : Option Phase → Bool → Phase
next_of None patched = Fresh
next_of (Some Fresh) patched = after_filling patched
next_of (Some Filling) patched = after_filling patched
next_of (Some Synced) patched = Named
next_of (Some Named) patched = Done
next_of (Some Done) patched = Done

abbrev pub next_phase : Installing → Phase
next_phase s = next_of s.reached s.patched

abbrev pub synced_file : List Rule → FileState
synced_file rules = record { bytes = whole_file rules; synced = true }

-- the scratch file stands under its name, filled as far as this
abbrev pub HasScratch : Installing → Directory → Type 0
HasScratch s d = (number_of d s.names.tmp ≡ d.scratch)
    × (scratch_of d ≡ Some (record { bytes = filled_file s.rules s.filled s.patched; synced = false }))

-- the file that stands under a name of these names
abbrev pub file_among : Names → List FileState → List ℕ → Option FileState
file_among names files name = option_and_then (λ number. slice_get files number) (get names name)

-- the directory is as the steps up to this phase left it
abbrev pub FitsPhase : Installing → Directory → Option Phase → Type 0
FitsPhase s d None = ⊤
FitsPhase s d (Some Fresh) = HasScratch s d
FitsPhase s d (Some Filling) = HasScratch s d
FitsPhase s d (Some Synced) = file_at d s.names.tmp ≡ Some (synced_file s.rules)
FitsPhase s d (Some Named) = file_at d s.names.cdb ≡ Some (synced_file s.rules)
FitsPhase s d (Some Done) = (names : Names) → CanBeLeft d.names names → file_among names d.files s.names.cdb ≡ Some (synced_file s.rules)

-- an installation that is not over finds the directory as its steps left it
abbrev pub Fits : Installing → Directory → Type 0
Fits s d = s.over ≡ false → FitsPhase s d s.reached

-- nothing was put into the scratch file
abbrev pub IsUnfilled : Installing → Type 0
IsUnfilled s = (s.filled ≡ 0) × (s.patched ≡ false)

-- what is true of each installation, however far it has come: its rules are those of an accepted text, its two names
-- differ, its file is compiled of its rules, and nothing is filled right after the scratch file was made
pub record IsConsistent (s : Installing) : Type 0 where
  pub of_text : AreOfText s.rules
  pub names : s.names.cdb ≢ s.names.tmp
  pub written : IsWritten s.rules
  pub unfilled : s.reached ≡ Some Fresh → IsUnfilled s

-- the file was filled further
abbrev pub FillsMore : Installing → Installing → Type 0
FillsMore old new = fillings_left new.rules new.filled new.patched < fillings_left old.rules old.filled old.patched

-- the whole file stands under the name of the rules file, and so it does whenever the machine stops
abbrev pub HasForGood : Installing → Directory → Type 0
HasForGood s d = LastsAmong d s.names.cdb (Some (whole_file s.rules) ∷ [])
