-- A scratch file that was just made.
use Rattle.std.proofs.Common.{◌≡◌, ℕ, ◌≤◌, false, true, List, [], ◌∷◌, ◌++◌, length, take, sym, ◌∙◌, ap, arith, refl}
use Rattle.std.specs.Prelude.{slice_get, Option, Some, option_and_then}
use Rattle.std.specs.FinMap.{get}
use Rattle.std.proofs.lemmas.List.{length-take}
use Rattle.dir_calls.specs.NameTable.{Names, puts, current}
use Rattle.dir_calls.specs.Directory.{Directory, FileState, number_of, scratch_of}
use Rattle.dir_calls.specs.Calls.{makes, appends, syncs, after, longer, lasting, with_file, without}
use Rattle.dir_calls.specs.Replacing.{HasSynced}
use Rattle.dir_calls.proofs.NamesOf.{get-insert_same}
use Rattle.dir_calls.proofs.NameTables.{current-push}

last_changed : (change : FileState → FileState) (files : List FileState) (new : FileState) → with_file change (length files) (files ++ new ∷ []) ≡ files ++ change new ∷ []
last_changed change [] new = refl
last_changed change (file ∷ files) new = ap (λ (l : List FileState). file ∷ l) (last_changed change files new)

last_file : (files : List FileState) (new : FileState) → slice_get (files ++ new ∷ []) (length files) ≡ Some new
last_file [] new = refl
last_file (file ∷ files) new = last_file files new

-- its bytes are those that were appended
pub appended_is : (d : Directory) (name piece : List ℕ) → scratch_of (after (appends piece) (after (makes name) d)) ≡ Some (record { bytes = piece; synced = false })
appended_is d name piece =
    ap (λ (l : List FileState). slice_get l (length d.files)) (last_changed (longer piece) d.files (record { bytes = []; synced = false }))
    ∙ last_file d.files (record { bytes = piece; synced = false })

some_is : {X : Type 0} (x y : X) → ◌≡◌ {A = Option X} (Some x) (Some y) → x ≡ y
some_is x y is = cc

-- so there are as many as were taken of the piece
pub appended_room : (d e f : Directory) (name piece : List ℕ) (count : ℕ) (file : FileState) → e ≡ after (makes name) d → f ≡ after (appends (take count piece)) e → count ≤ length piece → scratch_of f ≡ Some file → count ≤ length file.bytes
appended_room d e f name piece count file made appended fits is =
    let same : record { bytes = take count piece; synced = false } ≡ file = some_is _ _ (sym (appended_is d name (take count piece)) ∙ ap scratch_of (sym (appended ∙ ap (after (appends (take count piece))) made)) ∙ is) in
    omega (arith, fits, length-take count piece, ap (λ (x : FileState). length x.bytes) same)

-- a file that is made, filled and synced
pub written : (d : Directory) (name bytes : List ℕ) → HasSynced name bytes (after syncs (after (appends bytes) (after (makes name) d)))
written d name bytes = ap (option_and_then (λ n. slice_get filled n)) number ∙ ap (λ (l : List FileState). slice_get l (length d.files)) files ∙ last_file d.files (record { bytes = bytes; synced = true })
  where
    filled : List FileState
    filled = with_file lasting (length d.files) (with_file (longer bytes) (length d.files) (d.files ++ record { bytes = []; synced = false } ∷ []))

    number : number_of (after (makes name) d) name ≡ Some (length d.files)
    number = ap (λ (m : Names). get m name) (current-push (without d name).names (puts name (length d.files))) ∙ get-insert_same (current (without d name).names) name (length d.files)

    files : filled ≡ d.files ++ record { bytes = bytes; synced = true } ∷ []
    files = ap (with_file lasting (length d.files)) (last_changed (longer bytes) d.files (record { bytes = []; synced = false })) ∙ last_changed lasting d.files (record { bytes = bytes; synced = false })
