-- Tables whose keys are lists of bytes, by the bytes of their keys.
use Rattle.std.proofs.Common.{◌≡◌, ℕ, ◌&&◌, Bool, true, false, cond, List, [], ◌∷◌, ◌++◌, Option, None, Some, bytes_eq, is_none, refl, sym, ap, ◌∙◌, subst}
use Rattle.std.specs.Prelude.{nat_eq}
use Rattle.std.specs.Borrow.{Bor}
use Rattle.std.specs.Cmp.Lexicographic.{pointwise, nat_list_eq_equiv}
use Rattle.std.specs.HashMap.{HashMap, UpdatesBy, get_by}
use Rattle.std.specs.declared.alloc.Global.{Global}
use Rattle.std.specs.declared.vec.Vec.{Vec}
use Rattle.std.proofs.lemmas.Bool.{cond-false}
use Rattle.std.proofs.lemmas.Slice.Eq.{bytes_eq-Decides}
use Rattle.rule_warnings.specs.declared.lent.Lent.{Lent}
use Rattle.rule_warnings.specs.declared.seen.Seen.{Seen}
use Rattle.rule_warnings.specs.declared.spans.Span.{Span}
use Rattle.rule_warnings.specs.Spans.{line_spanned}
use Rattle.rule_warnings.specs.LentLines.{either_line, line_lent}
use Rattle.rule_warnings.specs.Tables.{items_of, line_alone, line_under, noted, spans_under}
use Rattle.rule_warnings.proofs.LentLemmas.{apart, others, updates}

abbrev by_made : {X S : Type 0} → HashMap (Vec ℕ Global) X S → List ℕ → Option X
by_made table address = get_by (λ (key : Vec ℕ Global). pointwise nat_eq address key.items) table

made-updates : {X S : Type 0} (key : List ℕ) (m n : HashMap (Vec ℕ Global) X S) (w : Option X) → UpdatesBy (λ (x y : Vec ℕ Global). pointwise nat_eq x.items y.items) (λ (k : Vec ℕ Global). pointwise nat_eq key k.items) m n w → (other : List ℕ) → by_made n other ≡ cond (bytes_eq key other) w (by_made m other)
made-updates key m n w h =
    updates (by_made m) (by_made n) key w h.1 (λ other differs. others _ _ _ _ h.3 _ (λ x y. nat_list_eq_equiv.congr other x.items y.items) (λ k. apart key other k.items differs))

-- an address that no table had is new in each
pub none_first : (a b s : Option ℕ) → is_none (either_line (either_line a b) s) ≡ true → a ≡ None
none_first None b s none = refl
none_first (Some x) b s none = absurd (cc)

put_made : (t : Bool) (a b s : Option ℕ) (line : ℕ) → (t ≡ true → a ≡ None) → either_line (either_line a (cond t (Some line) b)) s ≡ cond t (Some line) (either_line (either_line a b) s)
put_made true a b s line none = ap (λ o. either_line (either_line o (Some line)) s) (none refl)
put_made false a b s line none = refl

put_lent : (t : Bool) (a b s : Option ℕ) (line : ℕ) → either_line (either_line (cond t (Some line) a) b) s ≡ cond t (Some line) (either_line (either_line a b) s)
put_lent true a b s line = refl
put_lent false a b s line = refl

-- so an address that no line had before is noted
pub noted-made : (old new : Seen) (key : Vec ℕ Global) (address : List ℕ) (line : ℕ) → key.items ≡ address → is_none (line_under old address) ≡ true → new.lent ≡ old.lent → new.spans ≡ old.spans → UpdatesBy (λ (x y : Vec ℕ Global). pointwise nat_eq x.items y.items) (λ (k : Vec ℕ Global). pointwise nat_eq key.items k.items) old.made new.made (Some line) → (other : List ℕ) → line_under new other ≡ noted (line_under old) address line other
noted-made old new key address line is none lent spans h other =
    ap (λ (table : Lent). line_under (record new { lent = table }) other) lent
    ∙ ap (λ (table : HashMap (Vec ℕ Global) (Vec Span Global) _). line_under (record new { lent = old.lent; spans = table }) other) spans
    ∙ ap (λ o. either_line (either_line (line_lent old.lent other) o) (line_spanned (spans_under old) other)) (made-updates key.items old.made new.made (Some line) h other ∙ ap (λ (l : List ℕ). cond (bytes_eq l other) (Some line) (by_made old.made other)) is)
    ∙ put_made (bytes_eq address other) (line_lent old.lent other) (by_made old.made other) (line_spanned (spans_under old) other) line
    (λ same. subst (λ (l : List ℕ). line_lent old.lent l ≡ None) ((bytes_eq-Decides address other).0 same) (none_first (line_lent old.lent address) (by_made old.made address) (line_spanned (spans_under old) address) none))
    ∙ ap (λ b. cond (b && bytes_eq address other) (Some line) (line_under old other)) (sym none)

pub noted-lent : (old new : Seen) (key : Bor (List ℕ)) (line : ℕ) → is_none (line_under old key.now) ≡ true → new.made ≡ old.made → new.spans ≡ old.spans → ((other : List ℕ) → line_lent new.lent other ≡ cond (bytes_eq key.now other) (Some line) (line_lent old.lent other)) → (other : List ℕ) → line_under new other ≡ noted (line_under old) key.now line other
noted-lent old new key line none made spans h other =
    ap (λ (table : HashMap (Vec ℕ Global) ℕ _). line_under (record new { made = table }) other) made
    ∙ ap (λ (table : HashMap (Vec ℕ Global) (Vec Span Global) _). line_under (record new { made = old.made; spans = table }) other) spans
    ∙ ap (λ o. either_line (either_line o (by_made old.made other)) (line_spanned (spans_under old) other)) (h other)
    ∙ put_lent (bytes_eq key.now other) (line_lent old.lent other) (by_made old.made other) (line_spanned (spans_under old) other) line
    ∙ ap (λ b. cond (b && bytes_eq key.now other) (Some line) (line_under old other)) (sym none)

-- the spans around some numbers have one more, and the others stay
pub record IsPushed (old new : List ℕ → List Span) (key : List ℕ) (span : Span) : Type 0 where
  pub here : new key ≡ old key ++ span ∷ []
  pub others : (other : List ℕ) → bytes_eq key other ≡ false → new other ≡ old other

abbrev pub Updated : {S : Type 0} → List ℕ → HashMap (Vec ℕ Global) (Vec Span Global) S → HashMap (Vec ℕ Global) (Vec Span Global) S → Option (Vec Span Global) → Type 0
Updated key m n w = UpdatesBy (λ (x y : Vec ℕ Global). pointwise nat_eq x.items y.items) (λ (k : Vec ℕ Global). pointwise nat_eq key k.items) m n w

pub pushed : {S : Type 0} (key : List ℕ) (old removed new : HashMap (Vec ℕ Global) (Vec Span Global) S) (value : Vec Span Global) (span : Span) → Updated key old removed None → Updated key removed new (Some value) → value.items ≡ items_of (by_made old key) ++ span ∷ [] → IsPushed (λ k. items_of (by_made old k)) (λ k. items_of (by_made new k)) key span
pushed key old removed new value span taken put is = record {
  here = ap items_of put.1 ∙ is;
  others = λ other differs.
      ap items_of (made-updates key removed new (Some value) put other ∙ cond-false (bytes_eq key other) (Some value) (by_made removed other) differs
      ∙ made-updates key old removed None taken other ∙ cond-false (bytes_eq key other) None (by_made old other) differs);
}

-- empty tables
pub alone-none : (seen : Seen) → ((address : List ℕ) → line_lent seen.lent address ≡ None) → seen.made.entries ≡ [] → (address : List ℕ) (o : Option ℕ) → either_line (line_alone seen address) o ≡ o
alone-none seen lent made address o = ap (λ l. either_line (either_line l (by_made seen.made address)) o) (lent address) ∙ rw made refl

pub spans-none : (seen : Seen) → seen.spans.entries ≡ [] → (key : List ℕ) → spans_under seen key ≡ []
spans-none seen none key = rw none refl
