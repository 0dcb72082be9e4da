-- Pieces of a value: what is read of a file, and how far they are text.
use Rattle.std.proofs.Common.{◌≡◌, ℕ, ◌+◌, ◌-◌, ◌≤◌, ◌<◌, false, List, [], ◌∷◌, ◌++◌, length, take, drop, get_or, ◌*◌, None, refl, sym, ap, ◌∙◌, subst, arith}
use Rattle.std.specs.Str.{IsUtf8, IsValidUpTo, encode_utf8_all}
use Rattle.std.specs.Char.{len_utf8}
use Rattle.std.proofs.Math.Seq.{take-add}
use Rattle.std.proofs.lemmas.List.{drop-drop, drop-take, get_or-drop, get_or-take, length-append, length-drop, length-take, length-take-le, nil_from_length, take-append-drop, take-append-le, take_all, take_at}
use Rattle.std.proofs.lemmas.Str.{IsCharBoundary-from_take, IsCharBoundary-past_char, IsUtf8-drop, IsUtf8-take, len_utf8_bounds}
use Rattle.cdb_files.specs.Format.{number_at, two_numbers_at}
use Rattle.rule_lookup.specs.Codes.{decoded}
use Rattle.cdb_files.specs.declared.stage.Stage.{Stage}
use Rattle.cdb_files.specs.declared.stage.Stage.TheVariants.{Nothing, NoCode}
use Rattle.cdb_files.specs.declared.window.Window.{Window}
use Rattle.cdb_files.specs.Parts.{IsWindowOf, bytes_at}
use Rattle.cdb_files.specs.Stages.{may_end, stage_from}
use Rattle.cdb_files.proofs.StageLemmas.{decoded-no_text, decoded-stopped, stage_from-append, stage_from-no_code}

-- what begins with a piece whose front is followed by a whole character's length of no text is none
module _ (piece rest : List ℕ) (n : ℕ) (valid : IsValidUpTo piece n) (room : n + 4 ≤ length piece) where
  no_character : (text : IsUtf8 (piece ++ rest)) (after : IsUtf8 (drop n (piece ++ rest))) (cs : List ℕ) → encode_utf8_all cs ≡ drop n (piece ++ rest) → ⊥
  no_character text after [] is = absurd (omega (arith, ap length is, length-drop n (piece ++ rest), length-append piece rest))
  no_character text after (c ∷ cs) is =
      let long : n ≤ length (piece ++ rest) = omega (arith, length-append piece rest) in
      let wide = len_utf8_bounds c in
      let next = IsCharBoundary-past_char (piece ++ rest) (encode_utf8_all cs) n c long after (sym is) in
      let front = IsUtf8-take (piece ++ rest) (n + len_utf8 c) text next in
      valid.longest (n + len_utf8 c) (omega (arith, wide.0)) (subst IsUtf8 (take-append-le (n + len_utf8 c) piece rest (omega (arith, wide.1))) front)

  pub no_text : ¬ IsUtf8 (piece ++ rest)
  no_text text =
      let long : n ≤ length (piece ++ rest) = omega (arith, length-append piece rest) in
      let front : IsUtf8 (take n (piece ++ rest)) = subst IsUtf8 (sym (take-append-le n piece rest (omega arith))) valid.front in
      let after = IsUtf8-drop (piece ++ rest) n text (IsCharBoundary-from_take (piece ++ rest) n text long front) in
      no_character text after after.0 after.1.1

-- the first bytes of the first bytes
pub take-take : (n m : ℕ) (xs : List ℕ) → n + m ≤ length xs → take n (take (n + m) xs) ≡ take n xs
take-take n m xs inside =
    ap (take n) (take-add n m xs) ∙ take_at (take n xs) (take m (drop n xs)) n (length-take-le n xs (omega arith))

-- a piece that was read at a position of a value is one of the value
pub piece_of : (file : List ℕ) (position len done count : ℕ) → position + len ≤ length file → done + count ≤ len → bytes_at file (position + done) count ≡ take count (drop done (bytes_at file position len))
piece_of file position len done count inside within =
    let more = len - done - count in
    let parts : len ≡ done + (count + more) = omega arith in
    let rest : drop done (bytes_at file position len) ≡ take (count + more) (drop (position + done) file) =
    ap (λ n. drop done (take n (drop position file))) parts ∙ drop-take done (count + more) (drop position file) ∙ ap (take (count + more)) (drop-drop done position file) in
    sym (ap (take count) rest ∙ take-take count more (drop (position + done) file) (omega (arith, length-drop (position + done) file)))

-- how far the bytes of a value, read so far, may be a code
pub record GoesOn (value : List ℕ) (done : ℕ) (stage : Stage) : Type 0 where
  pub inside : done ≤ length value
  pub reached : stage ≡ stage_from Nothing (take done value)
  pub text : IsUtf8 value → IsUtf8 (drop done value)

pub GoesOn-start : (value : List ℕ) → GoesOn value 0 Nothing
GoesOn-start value = record { inside = omega arith; reached = refl; text = λ text. text }

-- where a piece was read next
module _ (value piece : List ℕ) (done count : ℕ) (stage : Stage) (on : GoesOn value done stage) (is : piece ≡ take count (drop done value)) (within : done + count ≤ length value) where
  -- what follows the piece
  behind : piece ++ drop count (drop done value) ≡ drop done value
  behind = ap (λ front. front ++ drop count (drop done value)) is ∙ take-append-drop count (drop done value)

  -- no text begins with it
  pub refused-text : ((rest : List ℕ) → (done + count ≡ length value → rest ≡ []) → ¬ IsUtf8 (piece ++ rest)) → decoded value ≡ None
  refused-text none =
      let rest = drop count (drop done value) in
      let ends : done + count ≡ length value → rest ≡ [] = λ last. nil_from_length rest (omega (arith, length-drop count (drop done value), length-drop done value)) in
      decoded-no_text value (λ text. none rest ends (subst IsUtf8 (sym behind) (on.text text)))

  -- its front of whole characters is read
  front_of : (front : ℕ) → front ≤ count → take front piece ≡ take front (drop done value)
  front_of front short =
      let more = count - front in
      let parts : count ≡ front + more = omega arith in
      ap (take front) is ∙ ap (λ n. take front (take n (drop done value))) parts ∙ take-take front more (drop done value) (omega (arith, length-drop done value))

  stage_further : (front : ℕ) → front ≤ count → stage_from stage (take front piece) ≡ stage_from Nothing (take (done + front) value)
  stage_further front short =
      ap (stage_from stage) (front_of front short)
      ∙ ap (λ s. stage_from s (take front (drop done value))) on.reached
      ∙ sym (stage_from-append Nothing (take done value) (take front (drop done value)))
      ∙ ap (stage_from Nothing) (sym (take-add done front value))

  -- no code goes on with it
  pub refused-stage : (front : ℕ) → front ≤ count → stage_from stage (take front piece) ≡ NoCode → decoded value ≡ None
  refused-stage front short none =
      let rest = drop (done + front) value in
      let whole : stage_from Nothing value ≡ NoCode =
      ap (stage_from Nothing) (sym (take-append-drop (done + front) value))
      ∙ stage_from-append Nothing (take (done + front) value) rest
      ∙ ap (λ s. stage_from s rest) (sym (stage_further front short) ∙ none)
      ∙ stage_from-no_code rest in
      decoded-stopped value (ap may_end whole)

  -- or it goes on
  pub GoesOn-next : (front : ℕ) → front ≤ count → IsUtf8 (take front piece) → GoesOn value (done + front) (stage_from stage (take front piece))
  GoesOn-next front short whole =
      record {
        inside = omega arith;
        reached = stage_further front short;
        text = λ text.
            let left = on.text text in
            let long : front ≤ length (drop done value) = omega (arith, length-drop done value) in
            let cut = IsCharBoundary-from_take (drop done value) front left long (subst IsUtf8 (front_of front short) whole) in
            subst IsUtf8 (drop-drop front done value) (IsUtf8-drop (drop done value) front left cut);
      }

-- at the end of a value
pub refused-end : (value : List ℕ) (done : ℕ) (stage : Stage) → GoesOn value done stage → length value ≤ done → may_end stage ≡ false → decoded value ≡ None
refused-end value done stage on past stops =
    decoded-stopped value (ap (λ bs. may_end (stage_from Nothing bs)) (sym (take_all done value past)) ∙ ap may_end (sym on.reached) ∙ stops)

-- the numbers at a position of bytes that were read together
byte_there : (file : List ℕ) (position n k i : ℕ) → k + i < n → get_or (drop k (bytes_at file position n)) i 0 ≡ get_or (drop (position + k) file) i 0
byte_there file position n k i below =
    let sum : position + (k + i) ≡ position + k + i = omega arith in
    get_or-drop k (bytes_at file position n) i 0
    ∙ get_or-take n (drop position file) (k + i) 0 below
    ∙ get_or-drop position file (k + i) 0
    ∙ ap (λ j. get_or file j 0) sum
    ∙ sym (get_or-drop (position + k) file i 0)

number_there : (file : List ℕ) (position n k : ℕ) → k + 4 ≤ n → number_at (bytes_at file position n) k ≡ number_at file (position + k)
number_there file position n k inside =
    let b0 = byte_there file position n k 0 (omega arith) in
    let b1 = byte_there file position n k 1 (omega arith) in
    let b2 = byte_there file position n k 2 (omega arith) in
    let b3 = byte_there file position n k 3 (omega arith) in
    λ j. b0 j + 256 * (b1 j + 256 * (b2 j + 256 * (b3 j + 256 * 0)))

pub two_numbers_there : (file : List ℕ) (position n k at : ℕ) → k + 8 ≤ n → position + k ≡ at → two_numbers_at (bytes_at file position n) k ≡ two_numbers_at file at
two_numbers_there file position n k at inside sum =
    let first = number_there file position n k (omega arith) ∙ ap (number_at file) sum in
    let further : position + (k + 4) ≡ at + 4 = omega arith in
    let second = number_there file position n (k + 4) (omega arith) ∙ ap (number_at file) further in
    λ j. (first j, second j)

-- and those that a window has
pub two_numbers_windowed : (file : List ℕ) (window : Window) (position : ℕ) (pair : ℕ × ℕ) → IsWindowOf file window → window.position ≤ position → position + 8 ≤ window.position + length window.bytes.items → pair ≡ two_numbers_at window.bytes.items (position - window.position) → pair ≡ two_numbers_at file position
two_numbers_windowed file window position pair of begins ends is =
    is
    ∙ ap (λ bytes. two_numbers_at bytes (position - window.position)) of
    ∙ two_numbers_there file window.position (length window.bytes.items) (position - window.position) position (omega arith) (omega arith)

pub part_windowed : (file : List ℕ) (window : Window) (position len : ℕ) → IsWindowOf file window → window.position ≤ position → position + len ≤ window.position + length window.bytes.items → bytes_at window.bytes.items (position - window.position) len ≡ bytes_at file position len
part_windowed file window position len of begins ends =
    let n = length window.bytes.items in
    let k = position - window.position in
    let more = n - k - len in
    let parts : n ≡ k + (len + more) = omega arith in
    let sum : window.position + k ≡ position = omega arith in
    let long : n ≡ length (take n (drop window.position file)) = ap length of in
    ap (λ bs. take len (drop k bs)) of
    ∙ ap (λ m. take len (drop k (take m (drop window.position file)))) parts
    ∙ ap (take len) (drop-take k (len + more) (drop window.position file))
    ∙ take-take len more (drop k (drop window.position file)) (omega (arith, long, length-take n (drop window.position file), length-drop window.position file, length-drop k (drop window.position file)))
    ∙ ap (take len) (drop-drop k window.position file)
    ∙ ap (λ at. take len (drop at file)) sum

-- a value inside a file is as long as its record says
pub length-bytes_at : (file : List ℕ) (position len : ℕ) → position + len ≤ length file → length (bytes_at file position len) ≡ len
length-bytes_at file position len inside = length-take-le len (drop position file) (omega (arith, length-drop position file))
