-- The scratch file and the bytes that are kept back of it.
use Rattle.std.proofs.Common.{◌≡◌, inl, inr, ℕ, zero, suc, ◌+◌, ◌≤◌, Bool, true, false, List, [], ◌∷◌, ◌++◌, length, take, drop, refl, sym, ◌∙◌, subst, ap, append_assoc, append-nil, length-append, length-drop, arith}
use Rattle.std.proofs.lemmas.List.{length-take-le}
use Rattle.std.proofs.Math.Seq.{take-length}
use Rattle.std.proofs.Math.ListN.{drop_of_length-le}
use Rattle.std.specs.Prelude.{slice_get, Option, Some, None, Result, Ok, Err, IfOk, OnOk, option_and_then, if◌then◌else◌}
use Rattle.std.specs.Option.{option_map, ForSome}
use Rattle.dir_calls.specs.Directory.{Directory, FileState, scratch_of}
use Rattle.dir_calls.specs.Images.{IsImage}
use Rattle.dir_calls.specs.Calls.{makes, patches, syncs, after, closed, lasting, longer, patched, with_scratch, without}
use Rattle.dir_calls.specs.Outcomes.{Fails}
use Rattle.dir_disk.specs.DiskSteps.{AllOrNone, MayWrite, Spoils, after_sync, after_write, created, rewritten_at}
use Rattle.dir_disk.specs.OsDir.{GivesUp, IsWritable, kept_back, shape}
use Rattle.dir_disk.specs.KeptImages.{kept_image, disk_image}
use Rattle.dir_calls.proofs.Passing.{fails_idle}
use Rattle.dir_calls.proofs.WithFiles.{twice, idle, changed, scratch_kept}

-- the file that may be written
pub record Writable (d : Directory) (number count : ℕ) : Type 0 where
  pub last : d.scratch ≡ Some number
  pub file : FileState
  pub there : scratch_of d ≡ Some file
  pub unsynced : file.synced ≡ false
  pub long : length file.bytes ≡ count

is_some : {X : Type 0} (x y : X) → ◌≡◌ {A = Option X} (Some x) (Some y) → x ≡ y
is_some x y is = cc

found : (d : Directory) (number count : ℕ) (o : Option FileState) → d.scratch ≡ Some number → scratch_of d ≡ o → option_map shape o ≡ Some (count, false) → Writable d number count
found d number count None last is shaped = absurd (cc)
found d number count (Some f) last is shaped =
    let pair : shape f ≡ (count, false) = is_some (shape f) (count, false) shaped in
    record { last = last; file = f; there = is; unsynced = ap (λ (p : ℕ × Bool). p.1) pair; long = ap (λ (p : ℕ × Bool). p.0) pair }

pub writable : (d : Directory) (number count : ℕ) → IsWritable d number count → Writable d number count
writable d number count is = found d number count (slice_get d.files number) is.0 (ap (λ s. option_and_then (λ n. slice_get d.files n) s) is.0) is.1

pub is_writable : (d : Directory) (number count : ℕ) (file : FileState) → d.scratch ≡ Some number → scratch_of d ≡ Some file → file.synced ≡ false → length file.bytes ≡ count → IsWritable d number count
is_writable d number count file last there unsynced long =
    (last, ap (option_map shape) (sym (ap (λ s. option_and_then (λ n. slice_get d.files n) s) last) ∙ there) ∙ ap (λ (p : ℕ × Bool). Some p) (ap (λ n. (n, file.synced)) long ∙ ap (λ s. (count, s)) unsynced))

pub writable_unsynced : (d : Directory) (number count : ℕ) → IsWritable d number count → ForSome (scratch_of d) (λ file. file.synced ≡ false)
writable_unsynced d number count is = λ file there. let w = writable d number count is in ap (λ (f : FileState). f.synced) (is_some file w.file (sym there ∙ w.there)) ∙ w.unsynced

pub writable_long : (d : Directory) (number count : ℕ) → IsWritable d number count → ForSome (scratch_of d) (λ file. length file.bytes ≡ count)
writable_long d number count is = λ file there. let w = writable d number count is in ap (λ (f : FileState). length f.bytes) (is_some file w.file (sym there ∙ w.there)) ∙ w.long

pub may_write : (d : Directory) (number count position : ℕ) → IsWritable d number count → position ≤ count → MayWrite d number position
may_write d number count position is le = record { last = is.0; inside = λ file there. omega (arith, le, writable_long d number count is file there) }

-- nothing is kept back
longer_none : (file : FileState) (s : Bool) → s ≡ file.synced → longer [] file ≡ file
longer_none file true is = ap (λ t. record { bytes = if t then file.bytes else file.bytes ++ []; synced = file.synced }) (sym is)
longer_none file false is = ap (λ t. record { bytes = if t then file.bytes else file.bytes ++ []; synced = file.synced }) (sym is) ∙ ap (λ (b : List ℕ). record { bytes = b; synced = file.synced }) (append-nil file.bytes)

pub kept_none : (d : Directory) → kept_back [] d ≡ d
kept_none d = idle (longer []) d (λ file there. longer_none file file.synced refl)

-- a write at the end of a file
end_bytes : (p b : List ℕ) (count : ℕ) → length b ≡ count → take count b ++ (p ++ drop (count + length p) b) ≡ b ++ p
end_bytes p b count is =
    ap (λ n. take n b ++ (p ++ drop (n + length p) b)) (sym is) ∙ ap (λ (t : List ℕ). t ++ (p ++ drop (length b + length p) b)) (take-length b)
    ∙ ap (λ (t : List ℕ). b ++ (p ++ t)) (drop_of_length-le b (omega arith)) ∙ ap (λ (t : List ℕ). b ++ t) (append-nil p)

end_file : (p : List ℕ) (count : ℕ) (file : FileState) → file.synced ≡ false → length file.bytes ≡ count → longer [] (rewritten_at count p file) ≡ longer p file
end_file p count file unsynced is =
    longer_none (rewritten_at count p file) false refl ∙ ap (λ (b : List ℕ). record { bytes = b; synced = false }) (end_bytes p file.bytes count is)
    ∙ ap (λ s. record { bytes = if s then file.bytes else file.bytes ++ p; synced = s }) (sym unsynced)

pub kept_written : (d : Directory) (number count : ℕ) (p : List ℕ) → IsWritable d number count → kept_back [] (after_write count p d) ≡ kept_back p d
kept_written d number count p is = twice (rewritten_at count p) (longer []) (longer p) d (λ file there. end_file p count file (writable_unsynced d number count is file there) (writable_long d number count is file there))

pub writable_end : (d : Directory) (number count more : ℕ) (p : List ℕ) → IsWritable d number count → more ≡ count + length p → IsWritable (after_write count p d) number more
writable_end d number count more p is long =
    let w = writable d number count is in
    is_writable (after_write count p d) number more (rewritten_at count p w.file) (scratch_kept (rewritten_at count p) d.scratch d ∙ w.last)
    (changed (rewritten_at count p) d ∙ ap (option_map (rewritten_at count p)) w.there) refl
    (ap (λ (b : List ℕ). length b) (end_bytes p w.file.bytes count w.long) ∙ omega (arith, length-append w.file.bytes p, w.long, long))

-- a write inside it
pub writable_inside : (d : Directory) (number count position : ℕ) (p : List ℕ) → IsWritable d number count → position + length p ≤ count → IsWritable (after_write position p d) number count
writable_inside d number count position p is le =
    let w = writable d number count is in
    let b = w.file.bytes in
    is_writable (after_write position p d) number count (rewritten_at position p w.file) (scratch_kept (rewritten_at position p) d.scratch d ∙ w.last)
    (changed (rewritten_at position p) d ∙ ap (option_map (rewritten_at position p)) w.there) refl
    (omega (arith, le, w.long, length-append (take position b) (p ++ drop (position + length p) b), length-append p (drop (position + length p) b), length-take-le position b (omega (arith, le, w.long)), length-drop (position + length p) b))

patch_file : (position : ℕ) (p : List ℕ) (file : FileState) → file.synced ≡ false → patched position p (longer [] file) ≡ rewritten_at position p file
patch_file position p file unsynced =
    ap (patched position p) (longer_none file file.synced refl)
    ∙ ap (λ s. record { bytes = if s then file.bytes else take position file.bytes ++ p ++ drop (position + length p) file.bytes; synced = s }) unsynced
    ∙ ap (λ (b : List ℕ). record { bytes = b; synced = false }) (append_assoc (take position file.bytes) p (drop (position + length p) file.bytes))

pub kept_patched : (d e : Directory) (number count position : ℕ) (pending p : List ℕ) → IsWritable e number count → kept_back [] e ≡ kept_back pending d
    → kept_back [] (after_write position p e) ≡ after (patches position p) (kept_back pending d)
kept_patched d e number count position pending p is kept =
    kept_none (after_write position p e)
    ∙ sym (twice (longer []) (patched position p) (rewritten_at position p) e (λ file there. patch_file position p file (writable_unsynced e number count is file there)))
    ∙ ap (after (patches position p)) kept

-- a sync
last_file : (file : FileState) → lasting (longer [] file) ≡ lasting file
last_file file = ap lasting (longer_none file file.synced refl)

pub kept_synced : (d e : Directory) (pending : List ℕ) → kept_back [] e ≡ kept_back pending d → closed (after_sync e) ≡ after syncs (kept_back pending d)
kept_synced d e pending kept = ap closed (sym (twice (longer []) lasting lasting e (λ file there. last_file file))) ∙ ap (after syncs) kept

pub kept_closed : (d e : Directory) (pending : List ℕ) → kept_back [] e ≡ kept_back pending d → closed e ≡ closed (kept_back pending d)
kept_closed d e pending kept = ap closed (sym (kept_none e) ∙ kept)

pub kept_nowhere : (d : Directory) (pending : List ℕ) → d.scratch ≡ None → kept_back pending d ≡ d
kept_nowhere d pending none = ap (λ s. with_scratch (longer pending) s d) none

pub gives_up : (d e f : Directory) → Spoils d e → f ≡ closed e → GivesUp d f
gives_up d e f spoils is = subst (λ (x : Directory). GivesUp d x) (sym is) (record { names = spoils.names; files = spoils.files; scratch = refl })

-- images
pub closed_from : (d image : Directory) → IsImage (closed d) image → IsImage d image
closed_from d image is = record { names = is.names; none_pending = is.none_pending; count = is.count; files = is.files; no_scratch = is.no_scratch }

pub closed_into : (d image : Directory) → IsImage d image → IsImage (closed d) image
closed_into d image is = record { names = is.names; none_pending = is.none_pending; count = is.count; files = is.files; no_scratch = is.no_scratch }

pub is_closed : (d e image : Directory) → e ≡ closed d → IsImage d image → IsImage e image
is_closed d e image same is = subst (λ (x : Directory). IsImage x image) (sym same) (closed_into d image is)

pub writable_image : (d : Directory) (number count : ℕ) (pending : List ℕ) (image : Directory) → IsWritable d number count → IsImage d image → IsImage (kept_back pending d) image
writable_image d number count pending image is = kept_image {H = ℕ} (λ n. n) d (Some number) count pending image (is.0, λ n there. subst (λ m. IsWritable d m count) (is_some number n there) is)

pub writable_disk : (d : Directory) (number count : ℕ) (pending : List ℕ) (image : Directory) → IsWritable d number count → IsImage (kept_back pending d) image → IsImage d image
writable_disk d number count pending image is = disk_image {H = ℕ} (λ n. n) d (Some number) count pending image (is.0, λ n there. subst (λ m. IsWritable d m count) (is_some number n there) is)

pub written_image : (d e : Directory) (number later before now : ℕ) (pending : List ℕ) → IsWritable d number before → IsWritable e later now → kept_back [] e ≡ kept_back pending d
    → (image : Directory) → IsImage e image → IsImage d image
written_image d e number later before now pending was is kept image left =
    writable_disk d number before pending image was (subst (λ (x : Directory). IsImage x image) kept (writable_image e later now [] image is left))

-- a file that is made
pub fails_named : (name : List ℕ) (d e : Directory) → AllOrNone d (without d name) e → Fails (makes name) d e
fails_named name d e (inl same) = subst (λ (x : Directory). Fails (makes name) d x) (sym same) (fails_idle (makes name) d)
fails_named name d e (inr gone) = record { names = (e, inr (inl gone), refl); files = record { each = λ number file there synced. ap (λ (x : Directory). slice_get x.files number) gone ∙ there } }

more_files : (files : List FileState) (new : FileState) (number : ℕ) (file : FileState) → slice_get files number ≡ Some file → slice_get (files ++ new ∷ []) number ≡ Some file
more_files [] new number file there = absurd (cc)
more_files (f ∷ files) new zero file there = there
more_files (f ∷ files) new (suc number) file there = more_files files new number file there

pub fails_made : (name : List ℕ) (d e f : Directory) → e ≡ without d name → AllOrNone e (closed (created e name)) f → Fails (makes name) d f
fails_made name d e f gone (inl same) = fails_named name d f (inr (same ∙ gone))
fails_made name d e f gone (inr made) = record {
  names = (after (makes name) d, inr (inr refl), ap (λ (x : Directory). x.names) (made ∙ ap (λ (x : Directory). closed (created x name)) gone));
  files = record {
    each = λ number file there synced.
        ap (λ (x : Directory). slice_get x.files number) (made ∙ ap (λ (x : Directory). closed (created x name)) gone) ∙ more_files d.files (record { bytes = []; synced = false }) number file there;
  };
}

pub without_closed : (name : List ℕ) (d e : Directory) → d.scratch ≡ None → AllOrNone d (without d name) e → e.scratch ≡ None
without_closed name d e none (inl same) = ap (λ (x : Directory). x.scratch) same ∙ none
without_closed name d e none (inr gone) = ap (λ (x : Directory). x.scratch) gone ∙ none

pub created_closed : (name : List ℕ) (d e f : Directory) → d.scratch ≡ None → e ≡ without d name → AllOrNone e (closed (created e name)) f → f.scratch ≡ None
created_closed name d e f none gone (inl same) = ap (λ (x : Directory). x.scratch) (same ∙ gone) ∙ none
created_closed name d e f none gone (inr made) = ap (λ (x : Directory). x.scratch) made

last_there : (files : List FileState) (new : FileState) → slice_get (files ++ new ∷ []) (length files) ≡ Some new
last_there [] new = refl
last_there (f ∷ files) new = last_there files new

pub made_writable : (d e : Directory) (name : List ℕ) (number : ℕ) → e ≡ created d name → e.scratch ≡ Some number → IsWritable e number 0
made_writable d e name number made last =
    let there : scratch_of e ≡ Some (record { bytes = []; synced = false }) = ap scratch_of made ∙ last_there d.files (record { bytes = []; synced = false }) in
    is_writable e number 0 (record { bytes = []; synced = false }) last there refl refl

pub made_handle : {H E : Type 0} (number : H → ℕ) (d e : Directory) (name : List ℕ) (r : Result H E) → OnOk r (e ≡ created d name) → IfOk r (λ file. e.scratch ≡ Some (number file)) → IfOk r (λ file. IsWritable e (number file) 0)
made_handle number d e name (Ok file) made last = made_writable d e name (number file) made last
made_handle number d e name (Err f) made last = _
