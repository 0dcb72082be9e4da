-- Codes that are read piece by piece.
use Rattle.std.proofs.Common.{◌≡◌, ℕ, ◌+◌, ◌-◌, ◌≤◌, ◌<◌, false, List, [], ◌∷◌, ◌++◌, length, take, drop, Bool, true, nat_eq, ◌&&◌, Some, None, Result, Ok, Err, IfOk, refl, sym, ap, ◌∙◌, arith, append_assoc}
use Rattle.std.specs.Prelude.{◌==◌, option_map}
use Rattle.std.specs.List.{starts_with}
use Rattle.std.proofs.Math.Seq.{take-add}
use Rattle.std.proofs.lemmas.Bool.{and_left, and_parts, and_right, eqb-true, cond-false, or_from, or_parts}
use Rattle.std.proofs.lemmas.List.{drop-drop, drop-take, drop_all, drop_at, length-append, length-drop, length-take-le, take-append-drop, take_all, take_at}
use Rattle.std.proofs.lemmas.List.Folds.{list_any-append}
use Rattle.rule_lookup.specs.Codes.{BeginsNone, IsEndOf, ReadsOn, decoded, setting_code, setting_in, settings_in, settings_with, verdict_code, verdict_in}
use Rattle.rule_lookup.specs.Lines.{has_byte, pieces_of}
use Rattle.rule_lookup.specs.Settings.{Assignment}
use Rattle.rule_lookup.specs.declared.instr.Verdict.{Verdict}
use Rattle.rule_lookup.specs.declared.instr.Verdict.TheVariants.{Allow, Deny}
use Rattle.rule_lookup.proofs.DecodeLemmas.{ReadsOn-all, decoded-found, decoded-refused, settings_in-read, settings_in-refused, settings_in-unended}
use Rattle.cdb_files.specs.Parts.{AddsCodes, IsFirst, bytes_at}
use Rattle.cdb_files.proofs.PieceLemmas.{take-take}

-- the settings so far and what is not read yet are all
pub record AreAll (codes : List ℕ) (settings : List Assignment) (done : ℕ) : Type 0 where
  pub all : settings_with settings (drop done codes) ≡ settings_in (pieces_of 0 codes)

-- nothing is read yet
pub AreAll-start : (codes : List ℕ) → AreAll codes [] 0
AreAll-start codes = record { all = ReadsOn-all [] codes codes (λ later. refl) }

-- the bytes behind those that were read, in a file
pub bytes_at-behind : (file : List ℕ) (position len done : ℕ) → done ≤ len → bytes_at file (position + done) (len - done) ≡ drop done (bytes_at file position len)
bytes_at-behind file position len done within =
    let parts : len ≡ done + (len - done) = omega arith in
    ap (take (len - done)) (sym (drop-drop done position file))
    ∙ sym (drop-take done (len - done) (drop position file))
    ∙ ap (λ n. drop done (take n (drop position file))) (sym parts)

-- the first bytes of those that are read, in a file
pub bytes_at-front : (file : List ℕ) (position n len : ℕ) → n ≤ len → position + len ≤ length file → bytes_at file position n ≡ take n (bytes_at file position len)
bytes_at-front file position n len short inside =
    let more = len - n in
    let parts : n + more ≡ len = omega arith in
    sym (take-take n more (drop position file) (omega (arith, length-drop position file))) ∙ ap (λ k. take n (take k (drop position file))) parts

-- where some of them are read next
module _ (codes : List ℕ) (settings : List Assignment) (done : ℕ) (on : AreAll codes settings done) where
  -- their settings were added
  pub AreAll-next : (more : List Assignment) (count : ℕ) → AddsCodes (drop done codes) settings more count → AreAll codes more (done + count)
  AreAll-next more count added =
      record { all = ap (settings_with more) (sym (drop-drop count done codes)) ∙ added ∙ on.all }

  -- or they are none
  pub AreAll-refused : settings_in (pieces_of 0 (drop done codes)) ≡ None → settings_in (pieces_of 0 codes) ≡ None
  AreAll-refused none = sym on.all ∙ ap (option_map (λ (later : List Assignment). settings ++ later)) none

  -- all was read
  pub AreAll-ended : length codes ≤ done → settings_in (pieces_of 0 codes) ≡ Some settings
  AreAll-ended past = settings_in-read settings (drop done codes) codes on.all (drop_all done codes past)

-- a piece at the front of codes, of which settings were read and a rest is left
module _ (codes piece rest : List ℕ) (n : ℕ) (is : piece ≡ take n codes) (ends : IsEndOf piece rest) where
  behind : codes ≡ ends.0 ++ (rest ++ drop n codes)
  behind =
      sym (take-append-drop n codes)
      ∙ ap (λ front. front ++ drop n codes) (sym is ∙ ends.1)
      ∙ append_assoc ends.0 rest (drop n codes)

  front-length : length piece - length rest ≡ length ends.0
  front-length = omega (arith, ap length ends.1, length-append ends.0 rest)

  rest-behind : drop (length piece - length rest) codes ≡ rest ++ drop n codes
  rest-behind =
      ap (λ k. drop k codes) front-length
      ∙ ap (drop (length ends.0)) behind
      ∙ drop_at ends.0 (rest ++ drop n codes) (length ends.0) refl

  pub rest-short : length rest ≤ length piece
  rest-short = omega (arith, ap length ends.1, length-append ends.0 rest)

  pub AddsCodes-piece : (old new : List Assignment) → ReadsOn old piece new rest → AddsCodes codes old new (length piece - length rest)
  AddsCodes-piece old new on =
      ap (settings_with new) rest-behind
      ∙ on (drop n codes)
      ∙ ap (settings_with old) (ap (λ front. front ++ drop n codes) is ∙ take-append-drop n codes)

-- where no settings were read of a piece, the next ones are added to what was there
pub AddsCodes-after : {E : Type 0} (codes : List ℕ) (old new more : List Assignment) (none : ℕ) (r : Result ℕ E) → none ≡ 0 → AddsCodes codes old new none → IfOk r (AddsCodes codes new more) → IfOk r (AddsCodes codes old more)
AddsCodes-after codes old new more none (Ok n) is first later = later ∙ ap (λ k. settings_with new (drop k codes)) (sym is) ∙ first
AddsCodes-after codes old new more none (Err e) is first later = tt

-- a piece that begins no settings
pub BeginsNone-piece : (codes piece : List ℕ) (n : ℕ) → piece ≡ take n codes → BeginsNone piece → settings_in (pieces_of 0 codes) ≡ None
BeginsNone-piece codes piece n is none =
    ap (λ bs. settings_in (pieces_of 0 bs)) (sym (take-append-drop n codes) ∙ ap (λ front. front ++ drop n codes) (sym is))
    ∙ none (drop n codes)

-- bytes with no `=` are no setting
setting_in-nowhere : (piece : List ℕ) → has_byte 61 piece ≡ false → setting_in piece ≡ None
setting_in-nowhere [] without = refl
setting_in-nowhere (b ∷ bs) without = cond-false _ _ _ (and_left _ _ (and_right _ _ (or_parts (b == 61) (has_byte 61 bs) without).1))

-- nor are bytes that begin with no plus
setting_in-no_plus : (front value : List ℕ) → starts_with nat_eq front (43 ∷ []) ≡ false → setting_in (front ++ 61 ∷ value) ≡ None
setting_in-no_plus [] value other = refl
setting_in-no_plus (b ∷ bs) value other = cond-false _ _ _ (and_left _ _ (and_left _ _ (is_plus b bs other)))
  where
    no_and : (x : Bool) → (x && true) ≡ false → x ≡ false
    no_and true other = other
    no_and false other = refl

    is_plus : (b : ℕ) (bs : List ℕ) → starts_with nat_eq (b ∷ bs) (43 ∷ []) ≡ false → (b == 43) ≡ false
    is_plus b bs other = let same : (43 == b) ≡ false = no_and (43 == b) other in grind arith

-- what begins with a plus is a plus and the rest
pub plus_and : (front : List ℕ) → starts_with nat_eq front (43 ∷ []) ≡ true → front ≡ 43 ∷ drop 1 front
plus_and [] is = absurd (cc)
plus_and (b ∷ bs) is = ap (λ n. n ∷ bs) (sym (eqb-true 43 b (and_parts (43 == b) true is).0))

-- codes with no zero byte are those of no settings
pub no_end : (codes : List ℕ) → 0 < length codes → IsFirst 0 codes None → settings_in (pieces_of 0 codes) ≡ None
no_end codes some none = settings_in-unended codes none some

-- the code of a setting at the front of the bytes of a file, up to its zero byte
module _ (file : List ℕ) (position len end : ℕ) (inside : position + len ≤ length file) (below : end < len) (ends : IsFirst 0 (bytes_at file position len) (Some end)) where
  -- the code without its zero byte
  piece-is : bytes_at file position end ≡ take end (bytes_at file position len)
  piece-is = bytes_at-front file position end len (omega arith) inside

  piece-clean : has_byte 0 (bytes_at file position end) ≡ false
  piece-clean = ap (has_byte 0) piece-is ∙ ends.0

  codes-are : bytes_at file position len ≡ bytes_at file position end ++ 0 ∷ drop (end + 1) (bytes_at file position len)
  codes-are = ends.1 ∙ ap (λ front. front ++ 0 ∷ drop (end + 1) (bytes_at file position len)) (sym piece-is)

  -- it is no setting
  refused-piece : setting_in (bytes_at file position end) ≡ None → settings_in (pieces_of 0 (bytes_at file position len)) ≡ None
  refused-piece none =
      settings_in-refused (bytes_at file position len) (bytes_at file position end) (drop (end + 1) (bytes_at file position len)) piece-clean codes-are none

  -- it has no `=`
  pub no_equals : IsFirst 61 (bytes_at file position end) None → settings_in (pieces_of 0 (bytes_at file position len)) ≡ None
  no_equals none = refused-piece (setting_in-nowhere (bytes_at file position end) none)

  -- it is cut at its first `=`
  module _ (equals : ℕ) (before : equals < end) (splits : IsFirst 61 (bytes_at file position end) (Some equals)) (front value : List ℕ) (front_read : front ≡ bytes_at file position equals) (value_read : value ≡ bytes_at file (position + equals + 1) (end - equals - 1)) where
    front-is : front ≡ take equals (bytes_at file position end)
    front-is = front_read ∙ bytes_at-front file position equals end (omega arith) (omega arith)

    value-is : value ≡ drop (equals + 1) (bytes_at file position end)
    value-is =
        let at : position + equals + 1 ≡ position + (equals + 1) = omega arith in
        let count : end - equals - 1 ≡ end - (equals + 1) = omega arith in
        value_read ∙ ap (λ n. bytes_at file n (end - equals - 1)) at ∙ ap (bytes_at file (position + (equals + 1))) count
        ∙ bytes_at-behind file position end (equals + 1) (omega arith)

    cut : bytes_at file position end ≡ front ++ 61 ∷ value
    cut =
        splits.1 ∙ ap (λ bs. bs ++ 61 ∷ drop (equals + 1) (bytes_at file position end)) (sym front-is) ∙ ap (λ bs. front ++ 61 ∷ bs) (sym value-is)

    pub front-named : has_byte 61 front ≡ false
    front-named = ap (has_byte 61) front-is ∙ splits.0

    parts-clean : (has_byte 0 front ≡ false) × (has_byte 0 value ≡ false)
    parts-clean =
        or_parts (has_byte 0 front) (has_byte 0 value) (sym (list_any-append (λ x. x == 0) front (61 ∷ value)) ∙ ap (has_byte 0) (sym cut) ∙ piece-clean)

    pub value-clean : has_byte 0 value ≡ false
    value-clean = parts-clean.1

    -- it begins with no plus
    pub no_plus : starts_with nat_eq front (43 ∷ []) ≡ false → settings_in (pieces_of 0 (bytes_at file position len)) ≡ None
    no_plus other = refused-piece (ap setting_in cut ∙ setting_in-no_plus front value other)

    -- it begins with a plus, and a name
    module _ (name : List ℕ) (plus : front ≡ 43 ∷ name) where
      pub name-clean : (has_byte 61 name ≡ false) × (has_byte 0 name ≡ false)
      name-clean = (ap (has_byte 61) (sym plus) ∙ front-named, ap (has_byte 0) (sym plus) ∙ parts-clean.0)

      code-then : bytes_at file position len ≡ setting_code (record { name = name; value = value }) ++ drop (end + 1) (bytes_at file position len)
      code-then =
          let rest = drop (end + 1) (bytes_at file position len) in
          codes-are
          ∙ ap (λ bs. bs ++ 0 ∷ rest) (cut ∙ ap (λ bs. bs ++ 61 ∷ value) plus)
          ∙ sym (append_assoc ((43 ∷ name) ++ 61 ∷ value) (0 ∷ []) rest)

      -- the setting was added
      pub AddsCodes-setting : (old new : List Assignment) → ReadsOn old (setting_code (record { name = name; value = value })) new [] → AddsCodes (bytes_at file position len) old new (end + 1)
      AddsCodes-setting old new on = on (drop (end + 1) (bytes_at file position len)) ∙ ap (settings_with old) (sym code-then)

      -- or it is none
      pub no_setting : BeginsNone (setting_code (record { name = name; value = value })) → settings_in (pieces_of 0 (bytes_at file position len)) ≡ None
      no_setting none = ap (λ bs. settings_in (pieces_of 0 bs)) code-then ∙ none (drop (end + 1) (bytes_at file position len))

-- where a byte stands first among pieces
pub record AreWithout (byte : ℕ) (bytes : List ℕ) (done : ℕ) : Type 0 where
  pub inside : done ≤ length bytes
  pub without : has_byte byte (take done bytes) ≡ false

module _ (byte : ℕ) (bytes piece : List ℕ) (done count : ℕ) (on : AreWithout byte bytes done) (is : piece ≡ take count (drop done bytes)) (within : done + count ≤ length bytes) where
  -- not in the next piece
  pub AreWithout-next : has_byte byte piece ≡ false → AreWithout byte bytes (done + count)
  AreWithout-next none = record {
    inside = within;
    without =
        ap (has_byte byte) (take-add done count bytes)
        ∙ list_any-append (λ x. x == byte) (take done bytes) (take count (drop done bytes))
        ∙ or_from _ _ on.without (ap (has_byte byte) (sym is) ∙ none);
  }

  -- in the next piece
  pub IsFirst-in : (before after : List ℕ) → has_byte byte before ≡ false → piece ≡ before ++ byte ∷ after → IsFirst byte bytes (Some (done + length before))
  IsFirst-in before after none cut =
      let rest = drop count (drop done bytes) in
      let left : drop done bytes ≡ before ++ byte ∷ (after ++ rest) =
      sym (take-append-drop count (drop done bytes)) ∙ ap (λ bs. bs ++ rest) (sym is ∙ cut) ∙ append_assoc before (byte ∷ after) rest in
      let front : take (done + length before) bytes ≡ take done bytes ++ before =
      take-add done (length before) bytes ∙ ap (λ bs. take done bytes ++ take (length before) bs) left
      ∙ ap (λ bs. take done bytes ++ bs) (take_at before (byte ∷ (after ++ rest)) (length before) refl) in
      let behind : drop (done + length before) bytes ≡ byte ∷ (after ++ rest) =
      sym (drop-drop (length before) done bytes) ∙ ap (drop (length before)) left ∙ drop_at before (byte ∷ (after ++ rest)) (length before) refl in
      let later : drop (done + length before + 1) bytes ≡ after ++ rest =
      sym (drop-drop 1 (done + length before) bytes) ∙ ap (drop 1) behind in (
        ap (has_byte byte) front ∙ list_any-append (λ x. x == byte) (take done bytes) before ∙ or_from _ _ on.without none,
        sym (take-append-drop (done + length before) bytes) ∙ ap (λ bs. take (done + length before) bytes ++ bs) (behind ∙ ap (λ bs. byte ∷ bs) (sym later)),
      )

-- or in none
pub IsFirst-nowhere : (byte : ℕ) (bytes : List ℕ) (done : ℕ) → AreWithout byte bytes done → length bytes ≤ done → IsFirst byte bytes None
IsFirst-nowhere byte bytes done on past = ap (has_byte byte) (sym (take_all done bytes past)) ∙ on.without

-- two bytes have the verdict of what they begin
verdict_in-front : (bytes : List ℕ) → 2 ≤ length bytes → verdict_in (take 2 bytes) ≡ verdict_in bytes
verdict_in-front [] long = absurd (omega arith)
verdict_in-front (a ∷ []) long = absurd (omega arith)
verdict_in-front (a ∷ b ∷ bs) long = refl

length-verdict_code : (verdict : Verdict) → length (verdict_code verdict) ≤ 2
length-verdict_code Allow = omega arith
length-verdict_code Deny = omega arith

-- a value whose first two bytes were read, as its verdict and what they have of the codes behind it
module _ (file : List ℕ) (position len : ℕ) (inside : position + len ≤ length file) (long : 2 ≤ len) (head codes : List ℕ) (verdict : Verdict) (is : head ≡ bytes_at file position 2) (begins : verdict ≡ verdict_in head) (follows : codes ≡ drop (length (verdict_code verdict)) head) where
  length-value : length (bytes_at file position len) ≡ len
  length-value = length-take-le len (drop position file) (omega (arith, length-drop position file))

  verdict-same : verdict ≡ verdict_in (bytes_at file position len)
  verdict-same =
      let more = len - 2 in
      let parts : 2 + more ≡ len = omega arith in
      let front : take 2 (drop position file) ≡ take 2 (bytes_at file position len) =
      sym (take-take 2 more (drop position file) (omega (arith, length-drop position file))) ∙ ap (λ n. take 2 (take n (drop position file))) parts in
      begins ∙ ap verdict_in (is ∙ front) ∙ verdict_in-front (bytes_at file position len) (omega (arith, length-value))

  begin-same : 2 - length codes ≡ length (verdict_code verdict)
  begin-same =
      let two : length head ≡ 2 = ap length is ∙ length-take-le 2 (drop position file) (omega (arith, length-drop position file)) in
      omega (arith, ap length follows, length-drop (length (verdict_code verdict)) head, length-verdict_code verdict)

  codes-behind : bytes_at file (position + (2 - length codes)) (len - (2 - length codes)) ≡ drop (length (verdict_code verdict)) (bytes_at file position len)
  codes-behind =
      let begin = 2 - length codes in
      let parts : begin + (len - begin) ≡ len = omega arith in
      ap (take (len - begin)) (sym (drop-drop begin position file))
      ∙ sym (drop-take begin (len - begin) (drop position file))
      ∙ ap (λ n. drop begin (take n (drop position file))) parts
      ∙ ap (λ n. drop n (bytes_at file position len)) begin-same

  pub decoded-behind : (settings : List Assignment) → settings_in (pieces_of 0 (bytes_at file (position + (2 - length codes)) (len - (2 - length codes)))) ≡ Some settings → decoded (bytes_at file position len) ≡ Some (record { verdict = verdict; settings = settings })
  decoded-behind settings found =
      decoded-found (bytes_at file position len) _ verdict verdict-same codes-behind settings found

  pub refused-behind : settings_in (pieces_of 0 (bytes_at file (position + (2 - length codes)) (len - (2 - length codes)))) ≡ None → decoded (bytes_at file position len) ≡ None
  refused-behind none = decoded-refused (bytes_at file position len) _ verdict verdict-same codes-behind none
