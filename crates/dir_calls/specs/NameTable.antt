-- The names of a directory: those that are settled, and the changes since then.
use Rattle.std.specs.Prelude.{◌≡◌, ℕ, Bool, List, [], ◌∷◌, ◌++◌, take, drop}
use Rattle.std.specs.List.{fold}
use Rattle.std.specs.Ordering.{nat_cmp, eq_by_cmp}
use Rattle.std.specs.Cmp.Lexicographic.{slice_cmp}
use Rattle.std.specs.FinMap.{FinMap, insert, remove}

-- the number of the file that each name stands for
abbrev pub Names : Type 0
Names = FinMap (slice_cmp nat_cmp) ℕ

abbrev pub same_name : List ℕ → List ℕ → Bool
same_name = eq_by_cmp (slice_cmp nat_cmp)

-- a change of names: a name is taken away, or put for a file, or put for a file while another name is taken away
pub data NameChange : Type 0 where
  takes : List ℕ → NameChange
  puts : List ℕ → ℕ → NameChange
  moves : List ℕ → List ℕ → ℕ → NameChange

-- the names after a change
abbrev pub after_change : Names → NameChange → Names
after_change names (takes name) = remove names name
after_change names (puts name number) = insert names name number
after_change names (moves from to number) = insert (remove names from) to number

-- the names after these changes, in order
abbrev pub after_changes : Names → List NameChange → Names
after_changes = fold after_change

pub record NameTable : Type 0 where
  pub settled : Names
  pub pending : List NameChange

-- the names as a reader sees them
abbrev pub current : NameTable → Names
current table = after_changes table.settled table.pending

-- one pending change more
abbrev pub push : NameTable → NameChange → NameTable
push table change = record { settled = table.settled; pending = table.pending ++ change ∷ [] }

-- all changes are settled
abbrev pub all_settled : NameTable → NameTable
all_settled table = record { settled = current table; pending = [] }

-- the names at some moment since they were last settled: after the first of the pending changes, some or all or none
pub record CanBeLeft (table : NameTable) (names : Names) : Type 0 where
  pub count : ℕ
  pub are : names ≡ after_changes table.settled (take count table.pending)

-- the first of the pending changes are settled, and the others are pending still
pub record SettlesSome (old new : NameTable) : Type 0 where
  pub count : ℕ
  pub settled : new.settled ≡ after_changes old.settled (take count old.pending)
  pub pending : new.pending ≡ drop count old.pending
