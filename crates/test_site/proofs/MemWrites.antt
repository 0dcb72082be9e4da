-- Writes of a disk in memory.
use Rattle.std.proofs.Common.{◌≡◌, ℕ, ◌+◌, ◌≤◌, Bool, true, false, List, [], ◌++◌, length, take, drop, refl, sym, ◌∙◌, ap, subst, append_assoc, length-append, arith}
use Rattle.std.proofs.lemmas.List.{take-append-drop, length-take-le, drop-drop}
use Rattle.std.proofs.Math.Seq.{take-append_seam, drop-append-add}
use Rattle.std.specs.Prelude.{slice_get, Option, Some, None, if◌then◌else◌}
use Rattle.std.specs.Option.{ForSome, option_map}
use Rattle.dir_calls.specs.Directory.{Directory, FileState, scratch_of}
use Rattle.dir_calls.specs.Calls.{after, appends, patches}
use Rattle.dir_calls.proofs.WithFiles.{twice}
use Rattle.memory_dirs.specs.Stored.{open_length}
use Rattle.dir_disk.specs.DiskSteps.{Spoils, after_write, rewritten_at}
use Rattle.dir_disk.specs.OsDir.{IsWritable, shape}
use Rattle.dir_disk.proofs.DiskWrites.{spoils_write}
use Rattle.dir_disk.proofs.KeptWrites.{kept_none, kept_patched, kept_written, writable_inside, writable_long, writable_unsynced}

shaped : (size : ℕ) (file : FileState) (s : Bool) → file.synced ≡ s → open_length (Some file) ≡ Some size → option_map shape (Some file) ≡ Some (size, false)
shaped size file true synced is =
    let never : None ≡ Some size = sym (ap (λ s. if s then None else Some (length file.bytes)) synced) ∙ is in
    absurd (cc)
shaped size file false synced is =
    let there : Some (length file.bytes) ≡ Some size = sym (ap (λ s. if s then None else Some (length file.bytes)) synced) ∙ is in
    let long : length file.bytes ≡ size = cc in
    λ i. Some (long i, synced i)

-- the scratch file that is not synced may be written
pub open_writable : (d : Directory) (number size : ℕ) → d.scratch ≡ Some number → open_length (slice_get d.files number) ≡ Some size → IsWritable d number size
open_writable d number size last is = (last, of (slice_get d.files number) is)
  where
    of : (found : Option FileState) → open_length found ≡ Some size → option_map shape found ≡ Some (size, false)
    of None is = absurd (cc)
    of (Some file) is = shaped size file file.synced refl is

-- bytes put at its end, and bytes put over those that stand there, are writes
append_writes : (d : Directory) (number size : ℕ) (p : List ℕ) → IsWritable d number size → after (appends p) d ≡ after_write size p d
append_writes d number size p is = sym (sym (kept_none (after_write size p d)) ∙ kept_written d number size p is)

pub patch_writes : (d : Directory) (number size position : ℕ) (p : List ℕ) → IsWritable d number size → after (patches position p) d ≡ after_write position p d
patch_writes d number size position p is =
    ap (after (patches position p)) (sym (kept_none d)) ∙ sym (kept_patched d d number size position [] p is refl) ∙ kept_none (after_write position p d)

-- two writes, the second from the end of the first on
bytes_twice : (position : ℕ) (p q b : List ℕ) → position ≤ length b
    → take (position + length p) (take position b ++ (p ++ drop (position + length p) b)) ++ (q ++ drop (position + length p + length q) (take position b ++ (p ++ drop (position + length p) b)))
    ≡ take position b ++ ((p ++ q) ++ drop (position + length (p ++ q)) b)
bytes_twice position p q b le =
    ap (λ (m : List ℕ). take (position + length p) m ++ (q ++ drop (position + length p + length q) m)) (sym (append_assoc (take position b) p (drop (position + length p) b)))
    ∙ ap (λ n. take n ((take position b ++ p) ++ drop (position + length p) b) ++ (q ++ drop (n + length q) ((take position b ++ p) ++ drop (position + length p) b))) seam
    ∙ ap (λ (t : List ℕ). t ++ (q ++ drop (length (take position b ++ p) + length q) ((take position b ++ p) ++ drop (position + length p) b))) (take-append_seam (take position b ++ p) (drop (position + length p) b))
    ∙ ap (λ (t : List ℕ). (take position b ++ p) ++ (q ++ t)) rest
    ∙ append_assoc (take position b) p (q ++ drop (position + length (p ++ q)) b)
    ∙ ap (λ (t : List ℕ). take position b ++ t) (sym (append_assoc p q (drop (position + length (p ++ q)) b)))
  where
    seam : position + length p ≡ length (take position b ++ p)
    seam = omega (arith, length-append (take position b) p, length-take-le position b le)

    rest : drop (length (take position b ++ p) + length q) ((take position b ++ p) ++ drop (position + length p) b) ≡ drop (position + length (p ++ q)) b
    rest = drop-append-add (take position b ++ p) (drop (position + length p) b) (length q) ∙ drop-drop (length q) (position + length p) b ∙ ap (λ n. drop n b) (omega (arith, length-append p q))

file_twice : (position k : ℕ) (rest : List ℕ) (file : FileState) → position ≤ length file.bytes → k ≤ length rest
    → rewritten_at (position + k) (drop k rest) (rewritten_at position (take k rest) file) ≡ rewritten_at position rest file
file_twice position k rest file le fits =
    ap (λ n. rewritten_at (position + n) (drop k rest) (rewritten_at position (take k rest) file)) (sym (length-take-le k rest fits))
    ∙ ap (λ (b : List ℕ). record { bytes = b; synced = false }) (bytes_twice position (take k rest) (drop k rest) file.bytes le)
    ∙ ap (λ (l : List ℕ). rewritten_at position l file) (take-append-drop k rest)

write_twice : (position k : ℕ) (rest : List ℕ) (d : Directory) → ForSome (scratch_of d) (λ file. position ≤ length file.bytes) → k ≤ length rest
    → after_write (position + k) (drop k rest) (after_write position (take k rest) d) ≡ after_write position rest d
write_twice position k rest d inside fits = twice (rewritten_at position (take k rest)) (rewritten_at (position + k) (drop k rest)) (rewritten_at position rest) d (λ file there. file_twice position k rest file (inside file there) fits)

-- bytes put over those that stand there up to the end, and the rest put behind it, are one write
pub over_and_on : (d : Directory) (number size position k : ℕ) (p : List ℕ) → IsWritable d number size → k ≤ length p → position + k ≡ size
    → after (appends (drop k p)) (after (patches position (take k p)) d) ≡ after_write position p d
over_and_on d number size position k p is fits end =
    ap (after (appends (drop k p))) (patch_writes d number size position (take k p) is)
    ∙ append_writes mid number size (drop k p) (writable_inside d number size position (take k p) is (omega (arith, end, length-take-le k p fits)))
    ∙ ap (λ n. after_write n (drop k p) mid) (sym end)
    ∙ write_twice position k p d (λ file there. omega (arith, end, writable_long d number size is file there)) fits
  where
    mid : Directory
    mid = after_write position (take k p) d

-- where there was no memory for bytes behind the end, the file is spoiled
pub spoiled_over : (d : Directory) (number size position : ℕ) (p : List ℕ) → IsWritable d number size → Spoils d (after (patches position p) d)
spoiled_over d number size position p is =
    subst (λ (x : Directory). Spoils d x) (sym (patch_writes d number size position p is)) (spoils_write position p d (writable_unsynced d number size is))
