-- The wrappers that `-w` names.
use Rattle.std.specs.Prelude.{◌≡◌, ℕ, ◌==◌, Bool, true, false, List, [], ◌∷◌, map, filter, reverse, Option, Some, None, option_map, option_and_then, bytes_eq, codes, if◌then◌else◌}
use Rattle.std.specs.Borrow.{Bor}
use Rattle.std.specs.List.{slice_split}
use Rattle.server_words.specs.declared.fault.ServerWordsFault.{ServerWordsFault}
use Rattle.server_words.specs.declared.fault.ServerWordsFault.TheVariants as fault
use Rattle.server_words.specs.declared.wrapping.LineWrapperName.{LineWrapperName}
use Rattle.server_words.specs.declared.wrapping.LineWrapperName.TheVariants.{AddCr, DelCr, FixCr}

-- the line wrappers of a connection's input and those of its output, each in the order in which it goes through them, and whether both ways
-- are recorded
pub record Wrappers : Type 0 where
  pub records : Bool
  pub input : List LineWrapperName
  pub output : List LineWrapperName

-- texts, each behind a reference
abbrev pub texts : List (Bor (List ℕ)) → List (List ℕ)
texts words = map (λ (word : Bor (List ℕ)). word.now) words

-- the line wrapper with a name
abbrev pub line_wrapper_named : List ℕ → Option LineWrapperName
line_wrapper_named name =
    if bytes_eq name (codes "addcr") then Some AddCr
    else (if bytes_eq name (codes "delcr") then Some DelCr
    else (if bytes_eq name (codes "fixcrio") then Some FixCr else None))

-- the line wrappers with these names, if each name has one
abbrev pub line_wrappers_in : List (List ℕ) → Option (List LineWrapperName)
line_wrappers_in [] = Some []
line_wrappers_in (name ∷ names) = option_and_then (λ line_wrapper. option_map (λ line_wrappers. line_wrapper ∷ line_wrappers) (line_wrappers_in names)) (line_wrapper_named name)

-- `delcr` acts on input, `addcr` on output, `fixcrio` on both
abbrev pub acts_on_input : LineWrapperName → Bool
acts_on_input AddCr = false
acts_on_input DelCr = true
acts_on_input FixCr = true

abbrev pub acts_on_output : LineWrapperName → Bool
acts_on_output AddCr = true
acts_on_output DelCr = false
acts_on_output FixCr = true

-- the first is nearest to the network: so input, which comes from there, goes through them in their order, and output in the opposite one
abbrev pub wrapping_of : Bool → List LineWrapperName → Wrappers
wrapping_of records line_wrappers =
    record { records = records; input = filter acts_on_input line_wrappers; output = filter acts_on_output (reverse line_wrappers) }

-- `recordio` may only be first
abbrev pub wrapping_by_names : List (List ℕ) → Option Wrappers
wrapping_by_names [] = option_map (wrapping_of false) (line_wrappers_in [])
wrapping_by_names (name ∷ names) =
    if bytes_eq name (codes "recordio") then option_map (wrapping_of true) (line_wrappers_in names)
    else option_map (wrapping_of false) (line_wrappers_in (name ∷ names))

-- the names in a text, a comma between each two
abbrev pub names_in : List ℕ → List (List ℕ)
names_in text = slice_split (λ b. b == 44) text

-- what the value of `-w` names; without it there are no wrappers
abbrev pub wrapping_in : Option (List ℕ) → Option Wrappers
wrapping_in None = Some (wrapping_of false [])
wrapping_in (Some text) = wrapping_by_names (names_in text)

-- wrappers are refused where the names are not theirs, or for want of memory
abbrev pub RefusesAs : {T : Type 0} → Option T → ServerWordsFault → Type 0
RefusesAs expected fault.BadWrappers = expected ≡ None
RefusesAs expected fault.OutOfMemory = Unit {0}
RefusesAs expected f = ⊥
