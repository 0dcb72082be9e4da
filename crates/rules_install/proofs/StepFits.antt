-- The directory as the call of each step leaves it.
use Rattle.std.proofs.Common.{◌≡◌, ◌⊎◌, inl, inr, ⊎_elim, Bool, true, false, ℕ, zero, suc, List, [], ◌∷◌, ◌++◌, length, take, refl, sym, ◌∙◌, ap, subst}
use Rattle.std.specs.Prelude.{slice_get, Option, None, Some, option_and_then}
use Rattle.std.specs.FinMap.{get}
use Rattle.dir_calls.specs.NameTable.{Names, puts, current, CanBeLeft}
use Rattle.dir_calls.specs.Directory.{Directory, FileState, number_of, scratch_of, file_at}
use Rattle.dir_calls.specs.Calls.{makes, syncs, renames, settles, after, lasting, with_file, with_scratch, closed, without}
use Rattle.dir_calls.specs.Lasting.{StandsFor, LastsAmong}
use Rattle.dir_calls.proofs.NamesOf.{get-insert_same}
use Rattle.dir_calls.proofs.NameTables.{current-push, left_settled}
use Rattle.dir_calls.proofs.Renames.{moved_file}
use Rattle.rule_lookup.specs.Pairs.{Rule}
use Rattle.dir_calls.specs.declared.phase.Phase.{Phase}
use Rattle.dir_calls.specs.declared.phase.Phase.TheVariants.{Fresh, Filling, Synced, Named, Done}
use Rattle.rules_install.specs.Filled.{blank_file, whole_file, filled_file}
use Rattle.rules_install.specs.Installing.{Installing, FitsPhase, HasScratch, next_of, next_phase, file_among}

-- ---- which phase was reached

pub fresh_next : (reached : Option Phase) (patched : Bool) → next_of reached patched ≡ Fresh → reached ≡ None
fresh_next None patched is = refl
fresh_next (Some Fresh) true is = absurd (cc)
fresh_next (Some Fresh) false is = absurd (cc)
fresh_next (Some Filling) true is = absurd (cc)
fresh_next (Some Filling) false is = absurd (cc)
fresh_next (Some Synced) patched is = absurd (cc)
fresh_next (Some Named) patched is = absurd (cc)
fresh_next (Some Done) patched is = absurd (cc)

pub synced_next : (reached : Option Phase) (patched : Bool) → next_of reached patched ≡ Synced
    → ((reached ≡ Some Fresh) ⊎ (reached ≡ Some Filling)) × (patched ≡ true)
synced_next None patched is = absurd (cc)
synced_next (Some Fresh) true is = (inl refl, refl)
synced_next (Some Fresh) false is = absurd (cc)
synced_next (Some Filling) true is = (inr refl, refl)
synced_next (Some Filling) false is = absurd (cc)
synced_next (Some Synced) patched is = absurd (cc)
synced_next (Some Named) patched is = absurd (cc)
synced_next (Some Done) patched is = absurd (cc)

pub named_next : (reached : Option Phase) (patched : Bool) → next_of reached patched ≡ Named → reached ≡ Some Synced
named_next None patched is = absurd (cc)
named_next (Some Fresh) true is = absurd (cc)
named_next (Some Fresh) false is = absurd (cc)
named_next (Some Filling) true is = absurd (cc)
named_next (Some Filling) false is = absurd (cc)
named_next (Some Synced) patched is = refl
named_next (Some Named) patched is = absurd (cc)
named_next (Some Done) patched is = absurd (cc)

-- ---- files

slice_get-last : (files : List FileState) (new : FileState) → slice_get (files ++ new ∷ []) (length files) ≡ Some new
slice_get-last [] new = refl
slice_get-last (file ∷ files) new = slice_get-last files new

pub with_file_at : (change : FileState → FileState) (files : List FileState) (number : ℕ) (file : FileState)
    → slice_get files number ≡ Some file → slice_get (with_file change number files) number ≡ Some (change file)
with_file_at change [] number file is = absurd (cc)
with_file_at change (x ∷ files) zero file is = let same : x ≡ file = cc in ap (λ (f : FileState). Some (change f)) same
with_file_at change (x ∷ files) (suc number) file is = with_file_at change files number file is

-- the number behind a file that is there
pub record Numbered (files : List FileState) (number : Option ℕ) (file : FileState) : Type 0 where
  pub n : ℕ
  pub is : number ≡ Some n
  pub there : slice_get files n ≡ Some file

pub numbered : (files : List FileState) (number : Option ℕ) (file : FileState) → option_and_then (λ n. slice_get files n) number ≡ Some file
    → Numbered files number file
numbered files None file is = absurd (cc)
numbered files (Some n) file is = record { n = n; is = refl; there = is }

-- a file that is there has a number
pub has_number : (files : List FileState) (number : Option ℕ) (file : FileState)
    → option_and_then (λ n. slice_get files n) number ≡ Some file → number ≡ None → ⊥
has_number files None file is none = absurd (cc)
has_number files (Some n) file is none = absurd (cc)

-- ---- the scratch file is made

nothing_filled : (rules : List Rule) (filled : ℕ) (patched : Bool) → filled ≡ 0 → patched ≡ false → filled_file rules filled patched ≡ []
nothing_filled rules filled patched none blank = ap (λ p. filled_file rules filled p) blank ∙ ap (λ n. take n (blank_file rules)) none

makes_scratch : (d : Directory) (name : List ℕ) → (number_of (after (makes name) d) name ≡ Some (length d.files))
    × (scratch_of (after (makes name) d) ≡ Some (record { bytes = []; synced = false }))
makes_scratch d name = (
  ap (λ (m : Names). get m name) (current-push (without d name).names (puts name (length d.files))) ∙ get-insert_same (current (without d name).names) name (length d.files),
  slice_get-last d.files (record { bytes = []; synced = false }),
)

pub fresh_fits : (s : Installing) (d : Directory) → s.filled ≡ 0 → s.patched ≡ false → HasScratch s (after (makes s.names.tmp) d)
fresh_fits s d none blank =
    let made = makes_scratch d s.names.tmp in
    (made.0, made.1 ∙ ap (λ bytes. Some (record { bytes = bytes; synced = false })) (sym (nothing_filled s.rules s.filled s.patched none blank)))

-- ---- it is made lasting

syncs_scratch : (d : Directory) (name bytes : List ℕ) → number_of d name ≡ d.scratch
    → scratch_of d ≡ Some (record { bytes = bytes; synced = false })
    → file_at (after syncs d) name ≡ Some (record { bytes = bytes; synced = true })
syncs_scratch d name bytes named scratch =
    let at = numbered d.files d.scratch _ scratch in
    ap (λ o. file_at (closed (with_scratch lasting o d)) name) at.is ∙ ap (λ o. option_and_then (λ n. slice_get (with_file lasting at.n d.files) n) o) (named ∙ at.is) ∙ with_file_at lasting d.files at.n _ at.there

pub filled_has : (s : Installing) (d : Directory) → next_phase s ≡ Synced → FitsPhase s d s.reached → HasScratch s d
filled_has s d next fits = ⊎_elim (λ is. subst (λ reached. FitsPhase s d reached) is fits) (λ is. subst (λ reached. FitsPhase s d reached) is fits) (synced_next s.reached s.patched next).0

pub has_scratch : (s : Installing) (d : Directory) → next_phase s ≡ Synced → FitsPhase s d s.reached → d.scratch ≡ None → ⊥
has_scratch s d next fits none = has_number d.files d.scratch _ (filled_has s d next fits).1 none

pub sync_fits : (s : Installing) (d : Directory) → next_phase s ≡ Synced → FitsPhase s d s.reached
    → file_at (after syncs d) s.names.tmp ≡ Some (record { bytes = whole_file s.rules; synced = true })
sync_fits s d next fits =
    let has = filled_has s d next fits in
    syncs_scratch d s.names.tmp (whole_file s.rules) has.0 (has.1 ∙ ap (λ p. Some (record { bytes = filled_file s.rules s.filled p; synced = false })) (synced_next s.reached s.patched next).1)

-- ---- it is moved onto the name of the rules file

pub synced_has : (s : Installing) (d : Directory) → next_phase s ≡ Named → FitsPhase s d s.reached
    → file_at d s.names.tmp ≡ Some (record { bytes = whole_file s.rules; synced = true })
synced_has s d next fits = subst (λ reached. FitsPhase s d reached) (named_next s.reached s.patched next) fits

pub has_name : (s : Installing) (d : Directory) → next_phase s ≡ Named → FitsPhase s d s.reached → number_of d s.names.tmp ≡ None → ⊥
has_name s d next fits none = has_number d.files (number_of d s.names.tmp) _ (synced_has s d next fits) none

pub rename_fits : (d : Directory) (from to : List ℕ) (file : FileState) → file_at d from ≡ Some file
    → file_at (after (renames from to) d) to ≡ Some file
rename_fits d from to file has = let at = numbered d.files (number_of d from) file has in moved_file d from to at.n at.is ∙ at.there

-- ---- the names are settled

pub settle_fits : (d : Directory) (name : List ℕ) (file : FileState) → file_at d name ≡ Some file → (names : Names)
    → CanBeLeft (after settles d).names names → file_among names (after settles d).files name ≡ Some file
settle_fits d name file has names left = ap (λ (m : Names). file_among m d.files name) (left_settled d.names names left) ∙ has

-- a file that stands there whatever names a stop leaves
pub done_lasts : (d : Directory) (name bytes : List ℕ)
    → ((names : Names) → CanBeLeft d.names names → file_among names d.files name ≡ Some (record { bytes = bytes; synced = true }))
    → LastsAmong d name (Some bytes ∷ [])
done_lasts d name bytes there = record { each = λ names left. stands (get names name) (there names left) }
  where
    stands : (number : Option ℕ) → option_and_then (λ n. slice_get d.files n) number ≡ Some (record { bytes = bytes; synced = true })
        → StandsFor d.files (Some bytes ∷ []) number
    stands None is = absurd (cc)
    stands (Some n) is = (bytes, inl refl, is)
