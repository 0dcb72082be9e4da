-- What a process is given: its words, and the variables that the entries of its environment say.
use Rattle.std.specs.Prelude.{ℕ, Bool, true, false, ◌&&◌, ◌==◌, not, List, [], ◌∷◌, Vec, Option, Some, None, option_map, if◌then◌else◌}
use Rattle.std.specs.Borrow.{Bor}
use Rattle.std.specs.declared.alloc.Global.{Global}
use Rattle.std.specs.List.{fold, list_any, before_first, after_first}
use Rattle.std.specs.Str.{is_utf8}
use Rattle.child_jobs.specs.Variables.{Variable, Variables, with_value}

-- what was found at a position, as the bytes that it is
abbrev pub bytes_found : Option (Vec ℕ Global) → Option (List ℕ)
bytes_found found = option_map (λ (text : Vec ℕ Global). text.items) found

-- the path by which a process was called: the first of its words
abbrev pub path_among : List (List ℕ) → List ℕ
path_among [] = []
path_among (path ∷ words) = path

abbrev pub is_equals : ℕ → Bool
is_equals b = b == 61

abbrev pub is_empty : List ℕ → Bool
is_empty [] = true
is_empty (b ∷ bs) = false

-- a text says a variable where it has an equals sign, and a name before the first one
abbrev pub says_variable : List ℕ → Bool
says_variable text = list_any is_equals text && not (is_empty (before_first is_equals text))

-- that name, and what stands behind the equals sign
abbrev pub variable_of : List ℕ → Option Variable
variable_of text = if says_variable text then Some (before_first is_equals text, after_first is_equals text) else None

-- the variable of an entry, which is UTF-8
abbrev pub variable_in : List ℕ → Option Variable
variable_in entry = if is_utf8 entry then variable_of entry else None

-- two texts of which one stands before the other, if there are such
abbrev pub texts_around : Option (Bor (List ℕ) × Bor (List ℕ)) → Option Variable
texts_around texts = option_map (λ (t : Bor (List ℕ) × Bor (List ℕ)). (t.0.now, t.1.now)) texts

-- with the variable of an entry, where it says one
abbrev pub with_found : Variables → Option Variable → Variables
with_found vars None = vars
with_found vars (Some v) = with_value vars v.0 v.1

-- with those of all entries, in turn
abbrev pub with_entries : Variables → List (List ℕ) → Variables
with_entries = fold (λ vars entry. with_found vars (variable_in entry))
