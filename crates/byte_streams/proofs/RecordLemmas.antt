-- What a recorder writes of a text, piece by piece.
use Rattle.std.proofs.Common.{◌≡◌, ℕ, zero, suc, ◌<◌, ◌≤◌, ltb, Bool, true, false, List, [], ◌∷◌, ◌++◌, length, map, take, drop, min, refl, sym, ap, subst, ◌∙◌, append_assoc, arith, length-drop}
use Rattle.std.specs.List.{concat}
use Rattle.std.specs.declared.option.Option.{Option}
use Rattle.std.proofs.KnownBytes.{Appends-nil, Appends-trans}
use Rattle.std.proofs.lemmas.List.{take_min}
use Rattle.std.proofs.lemmas.Bool.{ltb-false, ltb-true}
use Rattle.std.proofs.Math.ListN.{drop_of_length-le}
use Rattle.std.proofs.Math.Seq.{drop-length}
use Rattle.byte_streams.specs.Records.{longest_piece, record_text}
use Rattle.byte_streams.specs.declared.recording.Way.{Way}
use Rattle.byte_streams.specs.Recorders.{Writes, first_pieces, has_failed, number_of, pieces_in, records_text, way_of, writer_of}
use Rattle.byte_streams.specs.declared.tap.Recorder.{Recorder}

not_both : {b : Bool} → b ≡ true → b ≡ false → ⊥
not_both is_true is_false = absurd (cc)

-- so many pieces are all, where the text has no more bytes than that
enough : (longest : ℕ) → 0 < longest → (count more : ℕ) (text : List ℕ) → length text ≤ count → length text ≤ more → first_pieces count longest text ≡ first_pieces more longest text
enough longest some zero zero text few few' = refl
enough longest some zero (suc more) [] few few' = refl
enough longest some zero (suc more) (b ∷ bs) few few' = absurd (omega (arith, few))
enough longest some (suc count) zero [] few few' = refl
enough longest some (suc count) zero (b ∷ bs) few few' = absurd (omega (arith, few'))
enough longest some (suc count) (suc more) [] few few' = refl
enough longest some (suc count) (suc more) (b ∷ bs) few few' =
    let left = length-drop longest (b ∷ bs) in
    ap (λ pieces. take longest (b ∷ bs) ∷ pieces) (enough longest some count more (drop longest (b ∷ bs)) (omega (arith, left, few)) (omega (arith, left, few')))

-- the first piece of a text, and those behind it
pieces_in-some : (longest : ℕ) → 0 < longest → (text : List ℕ) → 0 < length text → pieces_in longest text ≡ take longest text ∷ pieces_in longest (drop longest text)
pieces_in-some longest some [] filled = absurd (omega (arith, filled))
pieces_in-some longest some (b ∷ bs) filled =
    let left = length-drop longest (b ∷ bs) in
    ap (λ pieces. take longest (b ∷ bs) ∷ pieces) (enough longest some (length bs) (length (drop longest (b ∷ bs))) (drop longest (b ∷ bs)) (omega (arith, left)) (omega arith))

pub records_text-some : (number : ℕ) (way : Way) (text : List ℕ) → 0 < longest_piece number → 0 < length text
    → records_text number way text ≡ record_text number way (take (longest_piece number) text) ++ records_text number way (drop (longest_piece number) text)
records_text-some number way text some filled = ap (λ pieces. concat (map (record_text number way) pieces)) (pieces_in-some (longest_piece number) some text filled)

drop_min_by : (most : ℕ) (text : List ℕ) (t : Bool) → ltb (length text) most ≡ t → drop (min most (length text)) text ≡ drop most text
drop_min_by most text true less =
    let short = ltb-true (length text) most less in
    ap (λ n. drop n text) (omega (arith, short)) ∙ drop-length text ∙ sym (drop_of_length-le text (omega (arith, short)))
drop_min_by most text false more = ap (λ n. drop n text) (omega (arith, ltb-false (length text) most more))

pub drop_min : (most : ℕ) (text : List ℕ) → drop (min most (length text)) text ≡ drop most text
drop_min most text = drop_min_by most text (ltb (length text) most) refl

-- ---- one piece after the other

module _ {W : Type 0} (contents : W → Option (List ℕ)) where
  pub writes_none : (recorder : Recorder W) → Writes contents recorder [] recorder
  writes_none recorder = record {
    number = refl;
    way = refl;
    stays = λ failed. (failed, refl);
    wrote = λ goes_on. Appends-nil (contents (writer_of recorder));
  }

  pub writes_more : {old mid new : Recorder W} {done more : List ℕ} → Writes contents old done mid → has_failed mid ≡ false → Writes contents mid more new → Writes contents old (done ++ more) new
  writes_more {old} {mid} {new} {done} {more} first goes_on then = record {
    number = then.number ∙ first.number;
    way = then.way ∙ first.way;
    stays = λ failed. absurd (not_both (first.stays failed).0 goes_on);
    wrote = λ unfailed. Appends-trans (contents (writer_of old)) (contents (writer_of mid)) (contents (writer_of new)) done more (first.wrote goes_on) (then.wrote unfailed);
  }

  -- the recorder wrote the records of the pieces in front of what is left of a text
  pub record WritesFront (old : Recorder W) (text rest : List ℕ) (new : Recorder W) : Type 0 where
    pub done : List ℕ
    pub cut : records_text (number_of old) (way_of old) text ≡ done ++ records_text (number_of old) (way_of old) rest
    pub wrote : Writes contents old done new

  pub front_none : (recorder : Recorder W) (text : List ℕ) → WritesFront recorder text text recorder
  front_none recorder text = record { done = []; cut = refl; wrote = writes_none recorder }

  -- the next piece
  pub front_more : {old mid new : Recorder W} {text rest front behind : List ℕ} {longest n : ℕ}
      → WritesFront old text rest mid → has_failed mid ≡ false → 0 < length rest → longest ≡ longest_piece (number_of old) → 0 < longest
      → n ≡ min longest (length rest) → front ≡ take n rest → behind ≡ drop n rest
      → Writes contents mid (record_text (number_of mid) (way_of mid) front) new → WritesFront old text behind new
  front_more {old} {mid} {new} {text} {rest} {front} {behind} {longest} {n} so_far goes_on some is_longest positive is_min is_front is_behind wrote =
      let number = number_of old in
      let way = way_of old in
      let line = record_text number way front in
      let front' : front ≡ take (longest_piece number) rest =
      is_front ∙ ap (λ k. take k rest) is_min ∙ take_min longest rest ∙ ap (λ k. take k rest) is_longest in
      let behind' : behind ≡ drop (longest_piece number) rest =
      is_behind ∙ ap (λ k. drop k rest) is_min ∙ drop_min longest rest ∙ ap (λ k. drop k rest) is_longest in
      let wrote' : Writes contents mid line new =
      subst (λ (w : Way). Writes contents mid (record_text number w front) new) so_far.wrote.way
      (subst (λ k. Writes contents mid (record_text k (way_of mid) front) new) so_far.wrote.number wrote) in
      record {
        done = so_far.done ++ line;
        cut = so_far.cut
            ∙ ap (λ l. so_far.done ++ l) (records_text-some number way rest (subst (λ k. 0 < k) is_longest positive) some
            ∙ ap (λ l. record_text number way l ++ records_text number way (drop (longest_piece number) rest)) (sym front')
            ∙ ap (λ l. line ++ records_text number way l) (sym behind'))
            ∙ sym (append_assoc so_far.done line (records_text number way behind));
        wrote = writes_more so_far.wrote goes_on wrote';
      }
