-- The entries of a slab of indices as a finite map, and what one index more or less changes.
use Rattle.std.proofs.Common.{◌≡◌, ℕ, zero, suc, ◌+◌, ◌<◌, Bool, true, false, ◌&&◌, T, List, [], ◌∷◌, length, get_or, Option, Some, None, is_some, cond, count_by, nat_eq, refl, sym, ap, ◌∙◌, inl, inr, arith, zero-add}
use Rattle.std.specs.FinMap as map
use Rattle.std.specs.FinMap.Entries.{below_all}
use Rattle.std.specs.Ordering.{nat_cmp}
use Rattle.std.specs.Cmp.{nat_cmp_total, unsigned_tied}
use Rattle.std.proofs.lemmas.Bool.{lt-ltb, ne_eqb, cases_eq, eq-eqb}
use Rattle.slab.specs.Slab.{Slab, get, Updates, entries, entries_from, slab_len}
use Rattle.slab.proofs.SlabLemmas.{length-entries}
use Rattle.child_jobs.specs.PlacesOut.{PlacesInUse, PlacesOut, is_used, live_of}

both : (a b : Bool) → T a → T b → T (a && b)
both true b p q = q
both false b p q = p

-- the entries in the order of their keys, as a finite map
abbrev pub places_of : Slab Unit → PlacesInUse
places_of s = map.from_sorted (entries s)

below : (x key : ℕ) (slots : List (Option Unit)) → x < key → T (below_all nat_cmp x (entries_from key slots))
below x key [] h = tt
below x key (None ∷ rest) h = below x (key + 1) rest (omega arith)
below x key (Some v ∷ rest) h = rw (lt-ltb x key h) (below x (key + 1) rest (omega arith))

rising : (key : ℕ) (slots : List (Option Unit)) → T (map.is_sorted nat_cmp (entries_from key slots))
rising key [] = tt
rising key (None ∷ rest) = rising (key + 1) rest
rising key (Some v ∷ rest) = both (below_all nat_cmp key (entries_from (key + 1) rest)) _ (below key (key + 1) rest (omega arith)) (rising (key + 1) rest)

entries-places : (s : Slab Unit) → map.entries (places_of s) ≡ entries s
entries-places s = map.entries-from_sorted nat_cmp (entries s) (rising 0 s.slots)

-- what a key finds after an update, by a test
updated : (old new : Slab Unit) (key : ℕ) (slot : Option Unit) → Updates old new key slot → (q : ℕ) → get new q ≡ cond (nat_eq q key) slot (get old q)
updated old new key slot updates q = elim (cases_eq q key) [
  | inl same ↦ rw (eq-eqb q key same) (ap (get new) same ∙ updates.changed)
  | inr differs ↦ rw (ne_eqb q key differs) (updates.others q differs)
]

not_found : (q key : ℕ) (slots : List (Option Unit)) → q < key → map.find nat_cmp q (entries_from key slots) ≡ None
not_found q key [] h = refl
not_found q key (None ∷ rest) h = not_found q (key + 1) rest (omega arith)
not_found q key (Some v ∷ rest) h =
    let other : nat_eq q key ≡ false = ne_eqb q key (λ e. omega arith) in
    rw (unsigned_tied q key, other) (not_found q (key + 1) rest (omega arith))

found : (key at : ℕ) (slots : List (Option Unit)) → map.find nat_cmp (key + at) (entries_from key slots) ≡ get_or slots at None
found key at [] = refl
found key zero (None ∷ rest) = not_found (key + 0) (key + 1) rest (omega arith)
found key (suc at) (None ∷ rest) =
    let shift : key + suc at ≡ key + 1 + at = omega arith in
    rw shift (found (key + 1) at rest)
found key zero (Some v ∷ rest) =
    let same : nat_eq (key + 0) key ≡ true = eq-eqb (key + 0) key (omega arith) in
    rw (unsigned_tied (key + 0) key, same) refl
found key (suc at) (Some v ∷ rest) =
    let other : nat_eq (key + suc at) key ≡ false = ne_eqb (key + suc at) key (λ e. omega arith) in
    let shift : key + suc at ≡ key + 1 + at = omega arith in
    rw (unsigned_tied (key + suc at) key, other) (ap (λ q. map.find nat_cmp q (entries_from (key + 1) rest)) shift ∙ found (key + 1) at rest)

get-places : (s : Slab Unit) (q : ℕ) → map.get (places_of s) q ≡ get s q
get-places s q = map.get-from_sorted nat_cmp (entries s) q (rising 0 s.slots) ∙ ap (λ k. map.find nat_cmp k (entries s)) (sym (zero-add q)) ∙ found 0 q s.slots

pub len-places : (s : Slab Unit) → map.len (places_of s) ≡ slab_len s
len-places s = map.len-entries (places_of s) ∙ ap length (entries-places s) ∙ length-entries s

pub places-empty : (s : Slab Unit) → s.slots ≡ [] → places_of s ≡ map.empty
places-empty s none = map.empty_of_len (places_of s) (len-places s ∙ ap (λ slots. count_by is_some slots) none)

-- an update of a slab, as one of the map
pub places-insert : (old new : Slab Unit) (key : ℕ) → Updates old new key (Some tt) → places_of new ≡ map.insert (places_of old) key tt
places-insert old new key updates = map.same_map nat_cmp_total map.nat_cmp-IsAntisymmetric _ _
    (λ q. get-places new q ∙ updated old new key (Some tt) updates q
    ∙ sym (map.get-insert nat_cmp_total (places_of old) key tt q ∙ (λ i. cond (unsigned_tied q key i) (Some tt) (get-places old q i))))

pub places-remove : (old new : Slab Unit) (key : ℕ) → Updates old new key None → places_of new ≡ map.remove (places_of old) key
places-remove old new key updates = map.same_map nat_cmp_total map.nat_cmp-IsAntisymmetric _ _
    (λ q. get-places new q ∙ updated old new key None updates q
    ∙ sym (map.get-remove nat_cmp_total (places_of old) key q ∙ (λ i. cond (unsigned_tied q key i) None (get-places old q i))))

-- what a table's value says, by the slab whose keys its places are
module _ (s : Slab Unit) (now : PlacesOut) (placed : places_of s ≡ now.places) where
  pub live_of-placed : live_of now ≡ slab_len s
  live_of-placed = sym (ap map.len placed) ∙ len-places s

  pub used-placed : (q : ℕ) → is_used now q ≡ is_some (get s q)
  used-placed q = ap (λ m. map.contains_key m q) (sym placed) ∙ ap is_some (get-places s q)
