-- Calls of a directory over a disk.
use Rattle.std.proofs.Common.{◌≡◌, ◌≢◌, ◌⊎◌, inl, inr, ⊎_elim, ℕ, zero, suc, ◌+◌, ◌≤◌, Bool, true, false, List, [], ◌∷◌, ◌++◌, length, refl, sym, ◌∙◌, subst, ap, append_assoc, length-append, arith}
use Rattle.std.specs.Prelude.{slice_get, Option, Some, None, option_and_then, if◌then◌else◌}
use Rattle.std.specs.Option.{option_map, ForSome}
use Rattle.dir_calls.specs.NameTable.{NameTable, moves, push, all_settled}
use Rattle.dir_calls.specs.Directory.{Directory, FileState, KeepsSynced, content, number_of, scratch_of}
use Rattle.dir_calls.specs.Images.{IsImage}
use Rattle.dir_calls.specs.Calls.{Call, makes, appends, renames, settles, after, closed, longer, is_number, moved, with_file, with_names, with_scratch, without}
use Rattle.dir_calls.specs.Outcomes.{Fails, LeavesNames, LeftBy}
use Rattle.dir_disk.specs.OsDir.{GivesUp, Holds, IsWritable, kept_back, shape}
use Rattle.dir_disk.specs.DiskSteps.{AllOrNone}
use Rattle.dir_calls.proofs.ChangedFiles.{file_was}
use Rattle.dir_disk.specs.KeptImages.{shape_of}
use Rattle.dir_calls.proofs.Passing.{fails_idle}
use Rattle.dir_calls.proofs.Renames.{moved_files}
use Rattle.dir_calls.proofs.WithFiles.{changed, twice, names_kept}
use Rattle.dir_disk.proofs.DiskWrites.{keeps_more}
use Rattle.dir_disk.proofs.KeptWrites.{writable, kept_nowhere, closed_from, closed_into}

-- synced files are as they are on the disk
spared : (pending : List ℕ) (n count : ℕ) (files : List FileState) → option_map shape (slice_get files n) ≡ Some (count, false) → KeepsSynced (with_file (longer pending) n files) files
spared pending n count files shaped = record {
  each = λ number now there synced. ⊎_elim (λ same. same) (λ other. absurd (clash now other.1 other.3 (shape_of files n count other.1 shaped other.2).0 synced)) (file_was (longer pending) n number files now there);
}
  where
    clash : (now file : FileState) → now ≡ longer pending file → file.synced ≡ false → now.synced ≡ true → ⊥
    clash now file is open_still closed_now = absurd (differ (sym (ap (λ (f : FileState). f.synced) is ∙ open_still) ∙ closed_now))
      where
        differ : false ≡ true → ⊥
        differ is = cc

pub kept_spares : {H : Type 0} (number : H → ℕ) (d : Directory) (scratch : Option H) (written : ℕ) (pending : List ℕ) → Holds number d scratch written → KeepsSynced (kept_back pending d).files d.files
kept_spares number d None written pending holds = subst (λ (x : Directory). KeepsSynced x.files d.files) (sym (kept_nowhere d pending holds.0)) (record { each = λ n file there synced. there })
kept_spares number d (Some file) written pending holds =
    subst (λ s. KeepsSynced (with_scratch (longer pending) s d).files d.files) (sym holds.0) (spared pending (number file) written d.files (holds.1 file refl).1)

-- a file that was given up
pub fails_gone : {H : Type 0} (number : H → ℕ) (call : Call) (d e : Directory) (scratch : Option H) (written : ℕ) (pending : List ℕ) → Holds number d scratch written → GivesUp d e → Fails call (kept_back pending d) e
fails_gone number call d e scratch written pending holds gives = record {
  names = subst (λ (names : NameTable). LeavesNames call (kept_back pending d) names) (names_kept (longer pending) d.scratch d ∙ sym gives.names) (fails_idle call (kept_back pending d)).names;
  files = keeps_more (kept_back pending d).files d.files e.files (kept_spares number d scratch written pending holds) gives.files;
}

pub fails_given : {H : Type 0} (number : H → ℕ) (call : Call) (d e : Directory) (scratch : Option H) (written : ℕ) (pending after_all : List ℕ) → Holds number d scratch written → GivesUp d e
    → Fails call (kept_back pending d) (kept_back after_all e)
fails_given number call d e scratch written pending after_all holds gives =
    subst (λ (x : Directory). Fails call (kept_back pending d) x) (sym (kept_nowhere e after_all gives.scratch)) (fails_gone number call d e scratch written pending holds gives)

-- bytes that are kept back are at the end
longer_more : (p q : List ℕ) (file : FileState) (s : Bool) → file.synced ≡ s → longer q (longer p file) ≡ longer (p ++ q) file
longer_more p q file true is = both (λ b. b) file.bytes file.synced is
  where
    both : (f : List ℕ → List ℕ) (b : List ℕ) (s : Bool) → s ≡ true → longer q (longer p (record { bytes = b; synced = s })) ≡ longer (p ++ q) (record { bytes = b; synced = s })
    both f b true is = refl
    both f b false is = absurd (cc)
longer_more p q file false is = both file.bytes file.synced is
  where
    both : (b : List ℕ) (s : Bool) → s ≡ false → longer q (longer p (record { bytes = b; synced = s })) ≡ longer (p ++ q) (record { bytes = b; synced = s })
    both b false is = ap (λ (l : List ℕ). record { bytes = l; synced = false }) (append_assoc b p q)
    both b true is = absurd (cc)

pub kept_appended : (d : Directory) (p q : List ℕ) → after (appends q) (kept_back p d) ≡ kept_back (p ++ q) d
kept_appended d p q = twice (longer p) (longer q) (longer (p ++ q)) d (λ file there. longer_more p q file file.synced refl)

-- changes of names
pick : (f : FileState → FileState) (s : Option ℕ) (t : Bool) (d : Directory) (from to : List ℕ) (n : ℕ)
    → with_scratch f s (if t then d else with_names d (push d.names (moves from to n))) ≡ (if t then with_scratch f s d else with_names (with_scratch f s d) (push (with_scratch f s d).names (moves from to n)))
pick f None true d from to n = refl
pick f None false d from to n = refl
pick f (Some m) true d from to n = refl
pick f (Some m) false d from to n = refl

moved_with : (f : FileState → FileState) (s o : Option ℕ) (d : Directory) (from to : List ℕ) → with_scratch f s (moved d from to o) ≡ moved (with_scratch f s d) from to o
moved_with f s None d from to = refl
moved_with f None (Some n) d from to = refl
moved_with f (Some m) (Some n) d from to = pick f (Some m) (is_number n (number_of d to)) d from to n

picked : (t : Bool) (d : Directory) (names : NameTable) → (if t then d else with_names d names).scratch ≡ d.scratch
picked true d names = refl
picked false d names = refl

pub moved_scratch : (d : Directory) (from to : List ℕ) (o : Option ℕ) → (moved d from to o).scratch ≡ d.scratch
moved_scratch d from to None = refl
moved_scratch d from to (Some n) = picked (is_number n (number_of d to)) d (push d.names (moves from to n))

pub number_with : (f : FileState → FileState) (s : Option ℕ) (d : Directory) (name : List ℕ) → number_of (with_scratch f s d) name ≡ number_of d name
number_with f None d name = refl
number_with f (Some n) d name = refl

pub kept_renamed : (d : Directory) (from to pending : List ℕ) → kept_back pending (after (renames from to) d) ≡ after (renames from to) (kept_back pending d)
kept_renamed d from to pending =
    ap (λ s. with_scratch (longer pending) s (moved d from to (number_of d from))) (moved_scratch d from to (number_of d from))
    ∙ moved_with (longer pending) d.scratch (number_of d from) d from to
    ∙ ap (λ o. moved (kept_back pending d) from to o) (sym (number_with (longer pending) d.scratch d from))

pub fails_renamed : (d e : Directory) (from to pending : List ℕ) → AllOrNone d (after (renames from to) d) e → Fails (renames from to) (kept_back pending d) (kept_back pending e)
fails_renamed d e from to pending (inl same) = subst (λ (x : Directory). Fails (renames from to) (kept_back pending d) (kept_back pending x)) (sym same) (fails_idle (renames from to) (kept_back pending d))
fails_renamed d e from to pending (inr done) =
    subst (λ (x : Directory). Fails (renames from to) (kept_back pending d) x) (sym (ap (kept_back pending) done ∙ kept_renamed d from to pending)) (whole (kept_back pending d))
  where
    whole : (k : Directory) → Fails (renames from to) k (after (renames from to) k)
    whole k = record { names = (after (renames from to) k, inr refl, refl); files = record { each = λ number file there synced. ap (λ (l : List FileState). slice_get l number) (moved_files k from to (number_of k from)) ∙ there } }

pub moved_holds : {H : Type 0} (number : H → ℕ) (d : Directory) (from to : List ℕ) (o : Option ℕ) (scratch : Option H) (written : ℕ) → Holds number d scratch written → Holds number (moved d from to o) scratch written
moved_holds number d from to None scratch written holds = holds
moved_holds number d from to (Some n) scratch written holds = either (is_number n (number_of d to)) (push d.names (moves from to n))
  where
    either : (t : Bool) (names : NameTable) → Holds number (if t then d else with_names d names) scratch written
    either true names = holds
    either false names = holds

pub kept_settled : (d : Directory) (pending : List ℕ) → kept_back pending (after settles d) ≡ after settles (kept_back pending d)
kept_settled d pending = both d.scratch d
  where
    both : (s : Option ℕ) (d : Directory) → with_scratch (longer pending) s (with_names d (all_settled d.names)) ≡ with_names (with_scratch (longer pending) s d) (all_settled (with_scratch (longer pending) s d).names)
    both None d = refl
    both (Some n) d = refl

-- what stands under a name that is not the scratch file's
other_file : (f : FileState → FileState) (n m : ℕ) (files : List FileState) → n ≢ m → slice_get (with_file f n files) m ≡ slice_get files m
other_file f n m [] other = refl
other_file f zero zero (x ∷ files) other = absurd (other refl)
other_file f zero (suc m) (x ∷ files) other = refl
other_file f (suc n) zero (x ∷ files) other = refl
other_file f (suc n) (suc m) (x ∷ files) other = other_file f n m files (λ is. other (ap suc is))

pub content_apart : (d : Directory) (name : List ℕ) (m : ℕ) (pending bytes : List ℕ) → number_of d name ≡ Some m → d.scratch ≢ Some m → option_map (λ file. file.bytes) (slice_get d.files m) ≡ Some bytes
    → content (kept_back pending d) name ≡ Some bytes
content_apart d name m pending bytes named other there = apart d.scratch other ∙ there
  where
    apart : (s : Option ℕ) → s ≢ Some m → content (with_scratch (longer pending) s d) name ≡ option_map (λ file. file.bytes) (slice_get d.files m)
    apart None other = ap (λ o. option_map (λ (file : FileState). file.bytes) (option_and_then (λ number. slice_get d.files number) o)) named
    apart (Some n) other =
        ap (λ o. option_map (λ (file : FileState). file.bytes) (option_and_then (λ number. slice_get (with_file (longer pending) n d.files) number) o)) named
        ∙ ap (option_map (λ (file : FileState). file.bytes)) (other_file (longer pending) n m d.files (λ is. other (ap (λ k. Some k) is)))

-- a scratch file let go, and then another made
pub left_closed : (name : List ℕ) (k f image : Directory) → LeftBy (makes name) (closed k) f image → LeftBy (makes name) k f image
left_closed name k f image (inr last) = inr last
left_closed name k f image (inl (state, inl first, is)) = inl (k, inl refl, closed_from k image (subst (λ (x : Directory). IsImage x image) first is))
left_closed name k f image (inl (state, inr (inl gone), is)) = inl (without k name, inr (inl refl), closed_from (without k name) image (subst (λ (x : Directory). IsImage x image) gone is))
left_closed name k f image (inl (state, inr (inr last), is)) = inl (state, inr (inr last), is)

pub closed_left : (name : List ℕ) (k f image : Directory) → LeftBy (makes name) k f image → IsImage k image ⊎ LeftBy (makes name) (closed k) f image
closed_left name k f image (inr last) = inr (inr last)
closed_left name k f image (inl (state, inl first, is)) = inl (subst (λ (x : Directory). IsImage x image) first is)
closed_left name k f image (inl (state, inr (inl gone), is)) =
    inr (inl (without (closed k) name, inr (inl refl), closed_into (without k name) image (subst (λ (x : Directory). IsImage x image) gone is)))
closed_left name k f image (inl (state, inr (inr last), is)) = inr (inl (state, inr (inr last), is))

pub fails_closed : (name : List ℕ) (k f : Directory) → Fails (makes name) (closed k) f → Fails (makes name) k f
fails_closed name k f fails = record { names = names fails.names; files = record { each = λ number file there synced. fails.files.each number file there synced } }
  where
    names : LeavesNames (makes name) (closed k) f.names → LeavesNames (makes name) k f.names
    names (state, inl first, is) = (k, inl refl, is ∙ ap (λ (x : Directory). x.names) first)
    names (state, inr (inl gone), is) = (without k name, inr (inl refl), is ∙ ap (λ (x : Directory). x.names) gone)
    names (state, inr (inr last), is) = (state, inr (inr last), is)

pub length_of : (o : Option FileState) (bytes : List ℕ) (len : ℕ) → ForSome o (λ file. len ≡ length file.bytes) → option_map (λ file. file.bytes) o ≡ Some bytes → len ≡ length bytes
length_of None bytes len long is = absurd (cc)
length_of (Some file) bytes len long is = long file refl ∙ ap (λ (b : List ℕ). length b) (is_some file.bytes bytes is)
  where
    is_some : (x y : List ℕ) → ◌≡◌ {A = Option (List ℕ)} (Some x) (Some y) → x ≡ y
    is_some x y is = cc

-- how many bytes the scratch file has with those that are kept back
pub kept_room : (d : Directory) (number written most : ℕ) (pending : List ℕ) → IsWritable d number written → ForSome (scratch_of (kept_back pending d)) (λ file. most ≤ length file.bytes) → most ≤ written + length pending
kept_room d number written most pending is room =
    let w = writable d number written is in
    let fits : most ≤ length (longer pending w.file).bytes = room (longer pending w.file) (changed (longer pending) d ∙ ap (option_map (longer pending)) w.there) in
    let long : length (longer pending w.file).bytes ≡ length (w.file.bytes ++ pending) = ap (λ s. length (if s then w.file.bytes else w.file.bytes ++ pending)) w.unsynced in
    omega (arith, fits, long, length-append w.file.bytes pending, w.long)
