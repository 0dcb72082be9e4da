-- Texts that go through wrappers one behind the other.
use Rattle.std.proofs.Common.{◌≡◌, ℕ, zero, suc, ◌+◌, ◌<◌, List, [], ◌∷◌, ◌++◌, length, take, drop, map, set, get_or, refl, sym, ap, subst, ◌∙◌, arith, add-one, drop-cons, take-suc-set, length-set}
use Rattle.std.proofs.lemmas.List.{drop-set-lt, drop_all, take_all}
use Rattle.std.specs.Prelude.{Err, Ok, OnOk, Result, if◌then◌else◌, is_ok}
use Rattle.std.specs.declared.alloc.AllocError.{AllocError}
use Rattle.std.proofs.Math.Seq.{take-append_seam}
use Rattle.byte_streams.specs.Wrappers.{Feeds, through}

-- what is written through some wrappers hangs on what each of them writes
through-map : {S : Type 0} (rest : S → List ℕ → List ℕ) (wrappers : List S) → through rest wrappers ≡ through (λ f. f) (map rest wrappers)
through-map rest [] = refl
through-map rest (wrapper ∷ wrappers) = ap (λ f. λ text. f (rest wrapper text)) (through-map rest wrappers)

pub through_same : {S : Type 0} (one two : S → List ℕ → List ℕ) (wrappers others : List S) → map one wrappers ≡ map two others → through one wrappers ≡ through two others
through_same one two wrappers others same = through-map one wrappers ∙ ap (through (λ f. f)) same ∙ sym (through-map two others)

module _ {S : Type 0} (rest : S → List ℕ → List ℕ) where
  pub through-append : (one two : List S) (text : List ℕ) → through rest (one ++ two) text ≡ through rest two (through rest one text)
  through-append [] two text = refl
  through-append (wrapper ∷ one) two text = through-append one two (rest wrapper text)

  -- a piece went through the wrappers before a position, and what they wrote of it did not go further yet
  abbrev pub Flows : (olds news : List S) → ℕ → (piece from : List ℕ) → Type 0
  Flows olds news position piece from = (later : List ℕ) → through rest olds (piece ++ later) ≡ through rest (drop position news) (from ++ through rest (take position news) later)

  -- a wrapper at a position, and those behind it
  wrapper_at : (wrappers : List S) (position : ℕ) (d : S) → position < length wrappers → (text : List ℕ) → through rest (drop position wrappers) text ≡ through rest (drop (position + 1) wrappers) (rest (get_or wrappers position d) text)
  wrapper_at wrappers position d inside text =
      ap (λ tail. through rest tail text) (drop-cons wrappers position d inside)
      ∙ ap (λ n. through rest (drop n wrappers) (rest (get_or wrappers position d) text)) (sym (add-one position))

  drop_behind : (wrappers : List S) (position : ℕ) (s : S) → drop (position + 1) (set wrappers position s) ≡ drop (position + 1) wrappers
  drop_behind wrappers position s = drop-set-lt (position + 1) wrappers position s (omega arith)

  front_with : (wrappers : List S) (position : ℕ) (s : S) → position < length wrappers → (text : List ℕ) → through rest (take (position + 1) (set wrappers position s)) text ≡ rest s (through rest (take position wrappers) text)
  front_with wrappers position s inside text =
      ap (λ front. through rest front text) (ap (λ n. take n (set wrappers position s)) (add-one position) ∙ take-suc-set wrappers position s inside)
      ∙ through-append (take position wrappers) (s ∷ []) text

  -- the wrapper at the position took what came so far
  pub flows_more : (olds news : List S) (position : ℕ) (d s : S) (piece from into : List ℕ) → position < length news → Flows olds news position piece from → Feeds (rest (get_or news position d)) (rest s) from [] into → Flows olds (set news position s) (position + 1) piece into
  flows_more olds news position d s piece from into inside flows feeds = λ later.
      let front = through rest (take position news) later in
      let given_is : feeds.given ≡ into = sym feeds.added in
      flows later
      ∙ wrapper_at news position d inside (from ++ front)
      ∙ ap (through rest (drop (position + 1) news)) (feeds.gives front ∙ ap (λ x. x ++ rest s front) given_is)
      ∙ ap (λ tail. through rest tail (into ++ rest s front)) (sym (drop_behind news position s))
      ∙ ap (λ x. through rest (drop (position + 1) (set news position s)) (into ++ x)) (sym (front_with news position s inside later))

  -- the last wrapper took it
  pub flows_last : (olds news : List S) (position : ℕ) (d s : S) (piece from before after : List ℕ) → position + 1 ≡ length news → Flows olds news position piece from → Feeds (rest (get_or news position d)) (rest s) from before after → Feeds (through rest olds) (through rest (set news position s)) piece before after
  flows_last olds news position d s piece from before after last flows feeds = record {
    given = feeds.given;
    added = feeds.added;
    gives = λ later.
        let inside : position < length news = omega arith in
        let front = through rest (take position news) later in
        flows later
        ∙ wrapper_at news position d inside (from ++ front)
        ∙ ap (λ tail. through rest tail (rest (get_or news position d) (from ++ front))) (drop_all (position + 1) news (omega arith))
        ∙ feeds.gives front
        ∙ ap (λ x. feeds.given ++ x) (sym (front_with news position s inside later) ∙ ap (λ wrappers. through rest wrappers later) (take_all (position + 1) (set news position s) (omega (arith, length-set {A = S}))));
  }

  -- at the end of the text
  pub ends_more : (olds news : List S) (position : ℕ) (d s : S) (from into before : List ℕ) → position < length news → through rest olds before ≡ through rest (drop position news) from → into ≡ rest (get_or news position d) from → through rest olds before ≡ through rest (drop (position + 1) (set news position s)) into
  ends_more olds news position d s from into before inside so_far is =
      so_far ∙ wrapper_at news position d inside from
      ∙ ap (through rest (drop (position + 1) news)) (sym is)
      ∙ ap (λ tail. through rest tail into) (sym (drop_behind news position s))

-- ---- one wrapper for another

module _ {S : Type 0} {V : Type 0} (f : S → V) where
  pub map-set : (wrappers : List S) (position : ℕ) (d s : S) → f s ≡ f (get_or wrappers position d) → map f (set wrappers position s) ≡ map f wrappers
  map-set [] position d s same = refl
  map-set (wrapper ∷ wrappers) zero d s same = ap (λ v. v ∷ map f wrappers) same
  map-set (wrapper ∷ wrappers) (suc position) d s same = ap (λ vs. f wrapper ∷ vs) (map-set wrappers position d s same)

-- ---- the same, of a wrapper as a loop finds it

module _ {S : Type 0} where
  -- no wrappers copy a piece
  pub flow_none : (result : Result (Unit {0}) AllocError) (wrappers : List S) (rest : S → List ℕ → List ℕ) (piece before after : List ℕ) → length wrappers ≡ 0 → after ≡ (if is_ok result then before ++ piece else before) → OnOk result (Feeds (through rest wrappers) (through rest wrappers) piece before after)
  flow_none (Err _) wrappers rest piece before after none is = tt
  flow_none (Ok _) [] rest piece before after none is = record { given = piece; added = is; gives = λ later. refl }
  flow_none (Ok _) (wrapper ∷ wrappers) rest piece before after none is = absurd (omega arith)

  pub wholes_more : {V : Type 0} (olds news : List S) (position : ℕ) (d s : S) (f : S → V) → f s ≡ f (get_or news position d) → map f news ≡ map f olds → map f (set news position s) ≡ map f olds
  wholes_more olds news position d s f same so_far = map-set f news position d s same ∙ so_far

  pub through_wholes : (olds news : List S) (position : ℕ) (d s : S) (f : S → List ℕ → List ℕ) → f s ≡ f (get_or news position d) → map f news ≡ map f olds → through f (set news position s) ≡ through f olds
  through_wholes olds news position d s f same so_far =
      through_same f f (set news position s) olds (wholes_more olds news position d s f same so_far)

  pub flow_step : (olds news : List S) (position : ℕ) (d s : S) (rest : S → List ℕ → List ℕ) (piece from lent empty into final : List ℕ) → position < length news → Flows rest olds news position piece from → lent ≡ from → empty ≡ [] → Feeds (rest (get_or news position d)) (rest s) lent empty into → final ≡ into → Flows rest olds (set news position s) (position + 1) piece final
  flow_step olds news position d s rest piece from lent empty into final inside flows lent_is empty_is feeds final_is =
      flows_more rest olds news position d s piece from final inside flows (record {
        given = feeds.given;
        added = final_is ∙ feeds.added ∙ ap (λ x. x ++ feeds.given) empty_is;
        gives = λ later. ap (λ x. rest (get_or news position d) (x ++ later)) (sym lent_is) ∙ feeds.gives later;
      })

  pub flow_end : (result : Result (Unit {0}) AllocError) (olds news : List S) (position last : ℕ) (d s : S) (rest : S → List ℕ → List ℕ) (piece from lent before after : List ℕ) → position ≡ last → last + 1 ≡ length news → Flows rest olds news position piece from → lent ≡ from → OnOk result (Feeds (rest (get_or news last d)) (rest s) lent before after) → OnOk result (Feeds (through rest olds) (through rest (set news last s)) piece before after)
  flow_end (Err _) olds news position last d s rest piece from lent before after here ends flows lent_is feeds = tt
  flow_end (Ok _) olds news position last d s rest piece from lent before after here ends flows lent_is feeds =
      flows_last rest olds news last d s piece from before after ends (subst (λ n. Flows rest olds news n piece from) here flows) (record {
        given = feeds.given;
        added = feeds.added;
        gives = λ later. ap (λ x. rest (get_or news last d) (x ++ later)) (sym lent_is) ∙ feeds.gives later;
      })

  pub ends_step : (olds news : List S) (position : ℕ) (d s : S) (rest : S → List ℕ → List ℕ) (before from lent empty into final : List ℕ) → position < length news → through rest olds before ≡ through rest (drop position news) from → lent ≡ from → empty ≡ [] → into ≡ empty ++ rest (get_or news position d) lent → final ≡ into → through rest olds before ≡ through rest (drop (position + 1) (set news position s)) final
  ends_step olds news position d s rest before from lent empty into final inside so_far lent_is empty_is into_is final_is =
      ends_more rest olds news position d s from final before inside so_far
      (final_is ∙ into_is ∙ ap (λ x. x ++ rest (get_or news position d) lent) empty_is ∙ ap (rest (get_or news position d)) lent_is)

-- what was lent of a vector stands in it again
pub lent_back : {S : Type 0} (news olds : List S) (n : ℕ) → n ≡ length news → take n (news ++ drop (length news) olds) ≡ news
lent_back news olds n same = ap (λ k. take k (news ++ drop (length news) olds)) same ∙ take-append_seam news (drop (length news) olds)
