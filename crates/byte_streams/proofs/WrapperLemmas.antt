-- What the wrappers write of a text, by what stands before it.
use Rattle.std.proofs.Common.{◌≡◌, ℕ, suc, ◌-◌, ◌<◌, Bool, true, false, cond, eqb, List, [], ◌∷◌, ◌++◌, length, take, drop, get_or, refl, sym, ap, subst, ◌∙◌, append_assoc, arith}
use Rattle.std.proofs.lemmas.Bool.{eqb-true}
use Rattle.std.proofs.lemmas.List.Elements.{All-head, All-tail, All-take}
use Rattle.std.proofs.Math.Seq.{take-append_seam}
use Rattle.byte_streams.specs.Wrappers.{Feeds, deleted_from, fixed_from}
use Rattle.byte_streams.specs.Wrapped.{IsOneLine, added, deleted, ends_with_cr, fixed, with_cr, without_cr}
use Rattle.byte_streams.proofs.PartLemmas.{first_with, has_first, written-line, written-other}

one_line_head : (b : ℕ) (bs : List ℕ) → IsOneLine (b ∷ bs) → eqb b 10 ≡ false
one_line_head b bs one = All-head (λ c. eqb c 10 ≡ false) b bs one

one_line_tail : (b : ℕ) (bs : List ℕ) → IsOneLine (b ∷ bs) → IsOneLine bs
one_line_tail b bs one = All-tail (λ c. eqb c 10 ≡ false) b bs one

one_line_front : (front : List ℕ) (b : ℕ) → IsOneLine (front ++ b ∷ []) → IsOneLine front
one_line_front front b one =
    subst IsOneLine (take-append_seam front (b ∷ [])) (All-take (λ c. eqb c 10 ≡ false) (length front) (front ++ b ∷ []) one)

one_line_last : (front : List ℕ) (b : ℕ) → IsOneLine (front ++ b ∷ []) → eqb b 10 ≡ false
one_line_last [] b one = one_line_head b [] one
one_line_last (c ∷ front) b one = one_line_last front b (one_line_tail c (front ++ b ∷ []) one)

-- ---- a carriage return before each line feed

pub added-feed : (text : List ℕ) → added (10 ∷ text) ≡ 13 ∷ 10 ∷ added text
added-feed text = written-line (λ line. line ++ 13 ∷ 10 ∷ []) (λ rest. rest) [] text

pub added-line : (front text : List ℕ) → IsOneLine front → added (front ++ text) ≡ front ++ added text
added-line [] text one = refl
added-line (b ∷ front) text one =
    written-other (λ line. line ++ 13 ∷ 10 ∷ []) (λ rest. rest) b (front ++ text) (one_line_head b front one) (has_first (front ++ text)) refl refl
    ∙ ap (λ x. b ∷ x) (added-line front text (one_line_tail b front one))

pub added_feeds : {before after : List ℕ} (front : List ℕ) → IsOneLine front → after ≡ before ++ front → Feeds added added front before after
added_feeds front one is = record { given = front; added = is; gives = λ later. added-line front later one }

-- ---- one carriage return less at the end of each line

-- a byte before others does not matter to the end
cut_after : (t : Bool) (b c : ℕ) (cs : List ℕ) → cond t (take (length (b ∷ c ∷ cs) - 1) (b ∷ c ∷ cs)) (b ∷ c ∷ cs) ≡ b ∷ cond t (take (length (c ∷ cs) - 1) (c ∷ cs)) (c ∷ cs)
cut_after true b c cs =
    let less : length (b ∷ c ∷ cs) - 1 ≡ suc (length (c ∷ cs) - 1) = omega arith in
    ap (λ n. take n (b ∷ c ∷ cs)) less
cut_after false b c cs = refl

without_cr-longer : (b c : ℕ) (cs : List ℕ) → without_cr (b ∷ c ∷ cs) ≡ b ∷ without_cr (c ∷ cs)
without_cr-longer b c cs = cut_after (ends_with_cr (c ∷ cs)) b c cs

without_cr-other : (b : ℕ) (part : List ℕ) → eqb b 13 ≡ false → without_cr (b ∷ part) ≡ b ∷ without_cr part
without_cr-other b [] other = ap (λ t. cond t (take 0 (b ∷ [])) (b ∷ [])) other
without_cr-other b (c ∷ cs) other = without_cr-longer b c cs

deleted-other : (b : ℕ) (text : List ℕ) → eqb b 10 ≡ false → eqb b 13 ≡ false → deleted (b ∷ text) ≡ b ∷ deleted text
deleted-other b text no_feed no_return =
    let h = has_first text in
    written-other (λ line. without_cr line ++ 10 ∷ []) without_cr b text no_feed h
    (ap (λ x. x ++ 10 ∷ []) (without_cr-other b h.first no_return)) (without_cr-other b h.first no_return)

deleted-return : (b : ℕ) (text : List ℕ) → eqb b 10 ≡ false → deleted (13 ∷ b ∷ text) ≡ 13 ∷ deleted (b ∷ text)
deleted-return b text no_feed =
    let h = has_first text in
    written-other (λ line. without_cr line ++ 10 ∷ []) without_cr 13 (b ∷ text) refl (first_with b text no_feed h)
    (ap (λ x. x ++ 10 ∷ []) (without_cr-longer 13 b h.first)) (without_cr-longer 13 b h.first)

-- the carriage return that is held back
abbrev pub held_text : Bool → List ℕ
held_text false = []
held_text true = 13 ∷ []

pub deleted_from-feed : (held : Bool) (text : List ℕ) → deleted_from held (10 ∷ text) ≡ 10 ∷ deleted text
deleted_from-feed false text = written-line (λ line. without_cr line ++ 10 ∷ []) without_cr [] text
deleted_from-feed true text = written-line (λ line. without_cr line ++ 10 ∷ []) without_cr (13 ∷ []) text

pub deleted_from-return : (held : Bool) (text : List ℕ) → deleted_from held (13 ∷ text) ≡ held_text held ++ deleted (13 ∷ text)
deleted_from-return false text = refl
deleted_from-return true text = deleted-return 13 text refl

pub deleted_from-other : (held : Bool) (b : ℕ) (text : List ℕ) → eqb b 10 ≡ false → eqb b 13 ≡ false → deleted_from held (b ∷ text) ≡ held_text held ++ b ∷ deleted text
deleted_from-other false b text no_feed no_return = deleted-other b text no_feed no_return
deleted_from-other true b text no_feed no_return =
    deleted-return b text no_feed ∙ ap (λ x. 13 ∷ x) (deleted-other b text no_feed no_return)

-- bytes of one line are written behind what was held back, if what follows them is written so
module _ (text written_text : List ℕ) (follows : (held : Bool) → deleted_from held text ≡ held_text held ++ written_text) where
  deleted_from-byte : (held t : Bool) (b : ℕ) (bs : List ℕ) → eqb b 13 ≡ t → eqb b 10 ≡ false → ((next : Bool) → deleted_from next (bs ++ text) ≡ held_text next ++ (bs ++ written_text)) → deleted_from held (b ∷ bs ++ text) ≡ held_text held ++ (b ∷ bs ++ written_text)
  deleted_from-byte held true b bs is_return no_feed more =
      let is : b ≡ 13 = eqb-true b 13 is_return in
      ap (λ c. deleted_from held (c ∷ bs ++ text)) is
      ∙ deleted_from-return held (bs ++ text)
      ∙ ap (λ x. held_text held ++ x) (more true)
      ∙ ap (λ c. held_text held ++ (c ∷ bs ++ written_text)) (sym is)
  deleted_from-byte held false b bs is_return no_feed more =
      deleted_from-other held b (bs ++ text) no_feed is_return ∙ ap (λ x. held_text held ++ b ∷ x) (more false)

  pub deleted_from-line : (front : List ℕ) → IsOneLine front → (held : Bool) → deleted_from held (front ++ text) ≡ held_text held ++ (front ++ written_text)
  deleted_from-line [] one held = follows held
  deleted_from-line (b ∷ front) one held =
      deleted_from-byte held (eqb b 13) b front refl (one_line_head b front one) (deleted_from-line front (one_line_tail b front one))

-- bytes whose last one is held back
pub hold_feeds : (held : Bool) (front : List ℕ) {bytes before mid after : List ℕ} → bytes ≡ front ++ 13 ∷ [] → IsOneLine bytes → mid ≡ before ++ held_text held → after ≡ mid ++ front → Feeds (deleted_from held) (deleted_from true) bytes before after
hold_feeds held front {bytes} {before} {mid} {after} cut one first then = record {
  given = held_text held ++ front;
  added = then ∙ ap (λ x. x ++ front) first ∙ append_assoc before (held_text held) front;
  gives = λ later.
      ap (λ x. deleted_from held (x ++ later)) cut
      ∙ ap (deleted_from held) (append_assoc front (13 ∷ []) later)
      ∙ deleted_from-line (13 ∷ later) (deleted (13 ∷ later)) (λ h. deleted_from-return h later) front (one_line_front front 13 (subst IsOneLine cut one)) held
      ∙ sym (append_assoc (held_text held) front (deleted (13 ∷ later)));
}

-- bytes whose last one is written
pub write_feeds : (held : Bool) (front : List ℕ) (b : ℕ) {bytes before mid after : List ℕ} → eqb b 13 ≡ false → bytes ≡ front ++ b ∷ [] → IsOneLine bytes → mid ≡ before ++ held_text held → after ≡ mid ++ bytes → Feeds (deleted_from held) (deleted_from false) bytes before after
write_feeds held front b {bytes} {before} {mid} {after} no_return cut one first then =
    let one' = subst IsOneLine cut one in
    record {
      given = held_text held ++ bytes;
      added = then ∙ ap (λ x. x ++ bytes) first ∙ append_assoc before (held_text held) bytes;
      gives = λ later.
          ap (λ x. deleted_from held (x ++ later)) cut
          ∙ ap (deleted_from held) (append_assoc front (b ∷ []) later)
          ∙ deleted_from-line (b ∷ later) (b ∷ deleted later) (λ h. deleted_from-other h b later (one_line_last front b one') no_return) front (one_line_front front b one') held
          ∙ ap (λ x. held_text held ++ x) (sym (append_assoc front (b ∷ []) (deleted later)) ∙ ap (λ x. x ++ deleted later) (sym cut))
          ∙ sym (append_assoc (held_text held) bytes (deleted later));
    }

-- ---- a carriage return before each line feed that has none

end_after : (t : Bool) (b c : ℕ) (cs : List ℕ) → cond t (b ∷ c ∷ cs) (b ∷ c ∷ cs ++ 13 ∷ []) ≡ b ∷ cond t (c ∷ cs) (c ∷ cs ++ 13 ∷ [])
end_after true b c cs = refl
end_after false b c cs = refl

with_cr-longer : (b c : ℕ) (cs : List ℕ) → with_cr (b ∷ c ∷ cs) ≡ b ∷ with_cr (c ∷ cs)
with_cr-longer b c cs = end_after (ends_with_cr (c ∷ cs)) b c cs

with_cr-other : (b : ℕ) (part : List ℕ) → eqb b 13 ≡ false → with_cr (b ∷ part) ≡ b ∷ with_cr part
with_cr-other b [] other = ap (λ t. cond t (b ∷ []) (b ∷ 13 ∷ [])) other
with_cr-other b (c ∷ cs) other = with_cr-longer b c cs

fixed-other : (b : ℕ) (text : List ℕ) → eqb b 10 ≡ false → eqb b 13 ≡ false → fixed (b ∷ text) ≡ b ∷ fixed text
fixed-other b text no_feed no_return =
    let h = has_first text in
    written-other (λ line. with_cr line ++ 10 ∷ []) (λ rest. rest) b text no_feed h
    (ap (λ x. x ++ 10 ∷ []) (with_cr-other b h.first no_return)) refl

fixed-after_return : (b : ℕ) (text : List ℕ) → eqb b 10 ≡ false → fixed (13 ∷ b ∷ text) ≡ 13 ∷ fixed (b ∷ text)
fixed-after_return b text no_feed =
    let h = has_first text in
    written-other (λ line. with_cr line ++ 10 ∷ []) (λ rest. rest) 13 (b ∷ text) refl (first_with b text no_feed h)
    (ap (λ x. x ++ 10 ∷ []) (with_cr-longer 13 b h.first)) refl

fixed-whole_end : (text : List ℕ) → fixed (13 ∷ 10 ∷ text) ≡ 13 ∷ 10 ∷ fixed text
fixed-whole_end text = written-line (λ line. with_cr line ++ 10 ∷ []) (λ rest. rest) (13 ∷ []) text

-- a carriage return is written at once
stays_first : (b : ℕ) {x y : List ℕ} → x ≡ b ∷ y → x ≡ b ∷ drop 1 x
stays_first b is = is ∙ ap (λ z. b ∷ drop 1 z) (sym is)

fixed-return_byte : (t : Bool) (b : ℕ) (text : List ℕ) → eqb b 10 ≡ t → fixed (13 ∷ b ∷ text) ≡ 13 ∷ fixed_from true (b ∷ text)
fixed-return_byte true b text feed =
    stays_first 13 (ap (λ c. fixed (13 ∷ c ∷ text)) (eqb-true b 10 feed) ∙ fixed-whole_end text)
fixed-return_byte false b text other = stays_first 13 (fixed-after_return b text other)

fixed-return : (text : List ℕ) → fixed (13 ∷ text) ≡ 13 ∷ fixed_from true text
fixed-return [] = refl
fixed-return (b ∷ text) = fixed-return_byte (eqb b 10) b text refl

-- what is written before a line feed, and with it
abbrev pub missing_return : Bool → List ℕ
missing_return true = []
missing_return false = 13 ∷ []

abbrev pub line_end : Bool → List ℕ
line_end after_cr = missing_return after_cr ++ 10 ∷ []

pub fixed_from-feed : (after_cr : Bool) (text : List ℕ) → fixed_from after_cr (10 ∷ text) ≡ line_end after_cr ++ fixed text
fixed_from-feed true text = ap (drop 1) (fixed-whole_end text)
fixed_from-feed false text = written-line (λ line. with_cr line ++ 10 ∷ []) (λ rest. rest) [] text

fixed_from-return : (after_cr : Bool) (text : List ℕ) → fixed_from after_cr (13 ∷ text) ≡ 13 ∷ fixed_from true text
fixed_from-return true text = ap (drop 1) (fixed-after_return 13 text refl) ∙ fixed-return text
fixed_from-return false text = fixed-return text

fixed_from-other : (after_cr : Bool) (b : ℕ) (text : List ℕ) → eqb b 10 ≡ false → eqb b 13 ≡ false → fixed_from after_cr (b ∷ text) ≡ b ∷ fixed text
fixed_from-other true b text no_feed no_return = ap (drop 1) (fixed-after_return b text no_feed) ∙ fixed-other b text no_feed no_return
fixed_from-other false b text no_feed no_return = fixed-other b text no_feed no_return

fixed_from-byte : (after_cr t : Bool) (b : ℕ) (text : List ℕ) → eqb b 13 ≡ t → eqb b 10 ≡ false → fixed_from after_cr (b ∷ text) ≡ b ∷ fixed_from (eqb b 13) text
fixed_from-byte after_cr true b text is_return no_feed =
    let is : b ≡ 13 = eqb-true b 13 is_return in
    subst (λ (c : ℕ). fixed_from after_cr (c ∷ text) ≡ c ∷ fixed_from (eqb c 13) text) (sym is) (fixed_from-return after_cr text)
fixed_from-byte after_cr false b text is_return no_feed =
    fixed_from-other after_cr b text no_feed is_return ∙ ap (λ t. b ∷ fixed_from t text) (sym is_return)

-- whether the last byte is a carriage return, where one may have stood before these
abbrev pub last_cr : Bool → List ℕ → Bool
last_cr after_cr [] = after_cr
last_cr after_cr (b ∷ bs) = last_cr (eqb b 13) bs

pub fixed_from-line : (front text : List ℕ) → IsOneLine front → (after_cr : Bool) → fixed_from after_cr (front ++ text) ≡ front ++ fixed_from (last_cr after_cr front) text
fixed_from-line [] text one after_cr = refl
fixed_from-line (b ∷ front) text one after_cr =
    fixed_from-byte after_cr (eqb b 13) b (front ++ text) refl (one_line_head b front one)
    ∙ ap (λ x. b ∷ x) (fixed_from-line front text (one_line_tail b front one) (eqb b 13))

pub last_cr-some : (bytes : List ℕ) (after_cr : Bool) → 0 < length bytes → last_cr after_cr bytes ≡ eqb (get_or bytes (length bytes - 1) 0) 13
last_cr-some [] after_cr some = absurd (omega arith)
last_cr-some (b ∷ []) after_cr some = refl
last_cr-some (b ∷ c ∷ cs) after_cr some =
    let less : length (b ∷ c ∷ cs) - 1 ≡ suc (length (c ∷ cs) - 1) = omega arith in
    last_cr-some (c ∷ cs) (eqb b 13) (omega arith) ∙ ap (λ n. eqb (get_or (b ∷ c ∷ cs) n 0) 13) (sym less)

pub note_feeds : (after_cr : Bool) {bytes before after : List ℕ} {last : Bool} → IsOneLine bytes → after ≡ before ++ bytes → last ≡ last_cr after_cr bytes → Feeds (fixed_from after_cr) (fixed_from last) bytes before after
note_feeds after_cr {bytes} {before} {after} {last} one is found = record {
  given = bytes;
  added = is;
  gives = λ later. fixed_from-line bytes later one after_cr ∙ ap (λ t. bytes ++ fixed_from t later) (sym found);
}
