-- What a lookup finds in a compiled file of some pairs: either some pair has the key, or none does.
use Rattle.std.proofs.Common.{◌≡◌, ◌≢◌, ℕ, ◌<◌, List, length, inl, inr, sym, ap, ◌∙◌, arith}
use Rattle.std.specs.List.{position_or_len}
use Rattle.std.proofs.lemmas.Bool.{both_ways, cases_lt}
use Rattle.std.proofs.lemmas.List.Folds.{find_at}
use Rattle.std.proofs.lemmas.List.Sums.{fails_before_first, passes_at_first}
use Rattle.std.proofs.lemmas.Option.{slice_get-get_or, slice_get_past}
use Rattle.std.proofs.lemmas.Slice.Eq.{bytes_eq-Decides}
use Rattle.cdb_files.specs.Format.{Pair}
use Rattle.cdb_files.specs.IsCdb.{IsCdb}
use Rattle.cdb_files.specs.Reading.{first_value, reading, value_of}
use Rattle.cdb_files.proofs.FirstFound.{has_key, no_pair, pair_at, reading-absent, reading-first}
use Rattle.cdb_files.proofs.Passing.{bytes_eq-same}

-- the pairs before the first one with a key have other keys
before-other : (pairs : List Pair) (key : List ℕ) (j : ℕ) → j < position_or_len (has_key key) pairs → (pair_at pairs j).key ≢ key
before-other pairs key j before same =
    both_ways (has_key key (pair_at pairs j)) (fails_before_first (has_key key) pairs j no_pair before) (bytes_eq-same (pair_at pairs j).key key same)

-- the value of the first pair with the key, or that there is none
pub reading_is : (file : List ℕ) (pairs : List Pair) → IsCdb file pairs → (key : List ℕ) → reading file key ≡ first_value pairs key
reading_is file pairs cdb key =
    let i = position_or_len (has_key key) pairs in
    elim (cases_lt i (length pairs)) [
      | inl inside ↦
          let same = (bytes_eq-Decides (pair_at pairs i).key key).0 (passes_at_first (has_key key) pairs no_pair inside) in
          let found = find_at (has_key key) pairs ∙ slice_get-get_or pairs i no_pair inside in
          reading-first file pairs cdb key i inside same (before-other pairs key) ∙ sym (ap value_of found)
      | inr past ↦
          let found = find_at (has_key key) pairs ∙ slice_get_past pairs i past in
          reading-absent file pairs cdb key (λ j below. before-other pairs key j (omega arith)) ∙ sym (ap value_of found)
    ]
