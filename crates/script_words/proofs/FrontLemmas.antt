-- A line with a front, and what stands behind that.
use Rattle.std.proofs.Common.{◌≡◌, ◌≢◌, ℕ, Bool, true, false, cond, eqb, List, ◌++◌, length, drop, Option, Some, None, MatchOption, refl, sym, ap, ◌∙◌}
use Rattle.std.specs.Borrow.{Bor}
use Rattle.std.specs.List.{starts_with}
use Rattle.std.specs.Option.{option_map}
use Rattle.std.proofs.lemmas.Bool.Decides.{Decides-eqb}
use Rattle.std.proofs.lemmas.Slice.Eq.{starts_is}
use Rattle.std.proofs.Math.Seq.{drop-append_seam}

-- a text begins with a front exactly where it is that and more
pub front_is : (front line : List ℕ) → starts_with eqb line front ≡ true → line ≡ front ++ drop (length front) line
front_is front line = (starts_is Decides-eqb line front (starts_with eqb line front) refl).0

pub starts_with-front : (front rest : List ℕ) → starts_with eqb (front ++ rest) front ≡ true
starts_with-front front rest = (starts_is Decides-eqb (front ++ rest) front (starts_with eqb (front ++ rest) front) refl).1 rest refl

none_behind : (front line : List ℕ) (b : Bool) → starts_with eqb line front ≡ b → ((rest : List ℕ) → line ≢ front ++ rest) → None ≡ cond b (Some (drop (length front) line)) None
none_behind front line true starts apart = absurd (apart (drop (length front) line) (front_is front line starts))
none_behind front line false starts apart = refl

abbrev pub behind_front : List ℕ → List ℕ → Option (List ℕ)
behind_front front line = cond (starts_with eqb line front) (Some (drop (length front) line)) None

-- what `strip_prefix` gives stands behind the front
pub behind_stripped : (front line : List ℕ) (r : Option (Bor (List ℕ))) → MatchOption r ((rest : List ℕ) → line ≢ front ++ rest) (λ x. line ≡ front ++ x.now) → option_map (λ (x : Bor (List ℕ)). x.now) r ≡ behind_front front line
behind_stripped front line None apart = none_behind front line (starts_with eqb line front) refl apart
behind_stripped front line (Some x) is =
    let starts = ap (λ (l : List ℕ). starts_with eqb l front) is ∙ starts_with-front front x.now in
    let rest = ap (drop (length front)) is ∙ drop-append_seam front x.now in
    sym (ap (λ b. cond b (Some (drop (length front) line)) None) starts ∙ ap Some rest)

-- a line that is a front and more
pub behind_front-append : (front rest : List ℕ) → behind_front front (front ++ rest) ≡ Some rest
behind_front-append front rest =
    ap (λ b. cond b (Some (drop (length front) (front ++ rest))) None) (starts_with-front front rest) ∙ ap Some (drop-append_seam front rest)

-- what stands behind a front is the rest
rest_by : (front line rest : List ℕ) (b : Bool) → starts_with eqb line front ≡ b → cond b (Some (drop (length front) line)) None ≡ Some rest → line ≡ front ++ rest
rest_by front line rest true starts is = front_is front line starts ∙ ap (λ (l : List ℕ). front ++ l) (cc)
rest_by front line rest false starts is = absurd (cc)

pub behind_front-is : (front line rest : List ℕ) → behind_front front line ≡ Some rest → line ≡ front ++ rest
behind_front-is front line rest is = rest_by front line rest (starts_with eqb line front) refl is
