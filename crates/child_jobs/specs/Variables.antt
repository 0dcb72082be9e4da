-- Variables: a value for each of some names.
use Rattle.std.specs.Prelude.{ℕ, Bool, false, List, Option, Some, None, map, bytes_eq, find, option_map, if◌then◌else◌}
use Rattle.std.specs.Ordering.{is_lt, nat_cmp}
use Rattle.std.specs.Cmp.Lexicographic.{slice_cmp}
use Rattle.std.specs.List.{fold, prefix_len}
use Rattle.std.specs.List.Sorted.{IsStrictlySortedBy}
use Rattle.std.specs.Arc.{arc_value}
use Rattle.std.specs.BTreeMap.{insert_entry}
use Rattle.std.specs.Map.{keys_of, remove_entry}
use Rattle.std.specs.declared.alloc.Global.{Global}
use Rattle.std.specs.declared.sync.Arc.{Arc}

-- a name and its value
abbrev pub Variable : Type 0
Variable = List ℕ × List ℕ

-- each name once, in the order of the names' bytes
abbrev pub Variables : Type 0
Variables = List Variable

-- the names ascend
abbrev pub AreOrdered : Variables → Type 0
AreOrdered vars = IsStrictlySortedBy (slice_cmp nat_cmp) (keys_of vars)

-- with a value for a name, in the place of the one before
abbrev pub with_value : Variables → List ℕ → List ℕ → Variables
with_value vars name value = insert_entry (slice_cmp nat_cmp) vars name value

-- without a name
abbrev pub without_value : Variables → List ℕ → Variables
without_value vars name = remove_entry (λ other. bytes_eq other name) vars

-- with the values of these, in turn
abbrev pub with_values : Variables → List Variable → Variables
with_values = fold (λ vars (v : Variable). with_value vars v.0 v.1)

-- the value of a name, if it has one
abbrev pub value_of : Variables → List ℕ → Option (List ℕ)
value_of vars name = option_map (λ (v : Variable). v.1) (find (λ (v : Variable). bytes_eq v.0 name) vars)

-- whether a variable's name stands before this one
abbrev pub is_below : List ℕ → Variable → Bool
is_below name v = is_lt (slice_cmp nat_cmp v.0 name)

-- how many variables stand before this name
abbrev pub position_of : Variables → List ℕ → ℕ
position_of vars name = prefix_len (is_below name) vars

-- whether there is a variable, and it has this name
abbrev pub is_named : List ℕ → Option Variable → Bool
is_named name None = false
is_named name (Some v) = bytes_eq v.0 name

-- its value, if it has this name
abbrev pub value_at : List ℕ → Option Variable → Option (List ℕ)
value_at name None = None
value_at name (Some v) = if bytes_eq v.0 name then Some v.1 else None

-- the variables that are shared
abbrev pub variables_in : List (Arc Variable Global) → Variables
variables_in = map arc_value
