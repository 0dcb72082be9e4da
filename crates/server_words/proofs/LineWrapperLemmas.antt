-- The line wrappers of names, name by name.
use Rattle.std.proofs.Common.{◌≡◌, ℕ, ◌+◌, ◌<◌, ◌≤◌, List, [], ◌∷◌, ◌++◌, drop, get_or, length, Option, Some, None, option_map, refl, sym, ap, ◌∙◌, append_assoc}
use Rattle.std.specs.Option.{option_and_then}
use Rattle.std.specs.Borrow.{Bor}
use Rattle.std.proofs.lemmas.List.{append-nil, drop_all, drop_more}
use Rattle.server_words.specs.declared.wrapping.LineWrapperName.{LineWrapperName}
use Rattle.server_words.specs.declared.fault.ServerWordsFault.{ServerWordsFault}
use Rattle.server_words.specs.declared.fault.ServerWordsFault.TheVariants as fault
use Rattle.server_words.specs.Wrappings.{RefusesAs, line_wrapper_named, line_wrappers_in, texts}

-- line wrappers before those that are still to come
abbrev pub before : List LineWrapperName → Option (List LineWrapperName) → Option (List LineWrapperName)
before line_wrappers more = option_map (λ (later : List LineWrapperName). line_wrappers ++ later) more

pub before-nil : (more : Option (List LineWrapperName)) → before [] more ≡ more
before-nil None = refl
before-nil (Some later) = refl

before-more : (line_wrappers : List LineWrapperName) (line_wrapper : LineWrapperName) (more : Option (List LineWrapperName)) → before line_wrappers (option_map (λ later. line_wrapper ∷ later) more) ≡ before (line_wrappers ++ line_wrapper ∷ []) more
before-more line_wrappers line_wrapper None = refl
before-more line_wrappers line_wrapper (Some later) = ap Some (sym (append_assoc line_wrappers (line_wrapper ∷ []) later))

-- no more names
pub before-end : (line_wrappers : List LineWrapperName) → before line_wrappers (line_wrappers_in []) ≡ Some line_wrappers
before-end line_wrappers = ap Some (append-nil line_wrappers)

module _ (line_wrappers : List LineWrapperName) (name : List ℕ) (names : List (List ℕ)) where
  at_name : (named : Option LineWrapperName) → line_wrapper_named name ≡ named → before line_wrappers (line_wrappers_in (name ∷ names)) ≡ before line_wrappers (option_and_then (λ line_wrapper. option_map (λ later. line_wrapper ∷ later) (line_wrappers_in names)) named)
  at_name named is =
      ap (λ (n : Option LineWrapperName). before line_wrappers (option_and_then (λ line_wrapper. option_map (λ later. line_wrapper ∷ later) (line_wrappers_in names)) n)) is

  -- a name that is a line wrapper's
  pub before-named : (line_wrapper : LineWrapperName) → line_wrapper_named name ≡ Some line_wrapper → before line_wrappers (line_wrappers_in (name ∷ names)) ≡ before (line_wrappers ++ line_wrapper ∷ []) (line_wrappers_in names)
  before-named line_wrapper is = at_name (Some line_wrapper) is ∙ before-more line_wrappers line_wrapper (line_wrappers_in names)

  -- one that is none's
  pub before-unnamed : line_wrapper_named name ≡ None → before line_wrappers (line_wrappers_in (name ∷ names)) ≡ None
  before-unnamed is = at_name None is

-- the name at a place, where the names before it are read
module _ (line_wrappers : List LineWrapperName) (names : List (Bor (List ℕ))) (i : ℕ) (d : Bor (List ℕ)) (within : i < length names) where
  at_place : before line_wrappers (line_wrappers_in (texts (drop i names))) ≡ before line_wrappers (line_wrappers_in ((get_or names i d).now ∷ texts (drop (i + 1) names)))
  at_place =
      ap (λ (left : List (Bor (List ℕ))). before line_wrappers (line_wrappers_in (texts left))) (drop_more names i d within)

  pub named_at : (line_wrapper : LineWrapperName) (more : List LineWrapperName) → line_wrapper_named ((get_or names i d).now) ≡ Some line_wrapper → more ≡ line_wrappers ++ line_wrapper ∷ [] → before more (line_wrappers_in (texts (drop (i + 1) names))) ≡ before line_wrappers (line_wrappers_in (texts (drop i names)))
  named_at line_wrapper more is pushed =
      ap (λ (read : List LineWrapperName). before read (line_wrappers_in (texts (drop (i + 1) names)))) pushed
      ∙ sym (at_place ∙ before-named line_wrappers ((get_or names i d).now) (texts (drop (i + 1) names)) line_wrapper is)

  pub unnamed_at : line_wrapper_named ((get_or names i d).now) ≡ None → before line_wrappers (line_wrappers_in (texts (drop i names))) ≡ None
  unnamed_at is =
      at_place ∙ before-unnamed line_wrappers ((get_or names i d).now) (texts (drop (i + 1) names)) is

-- no name is left
pub none_left : (line_wrappers : List LineWrapperName) (names : List (Bor (List ℕ))) (i : ℕ) → length names ≤ i → before line_wrappers (line_wrappers_in (texts (drop i names))) ≡ Some line_wrappers
none_left line_wrappers names i end =
    ap (λ (left : List (Bor (List ℕ))). before line_wrappers (line_wrappers_in (texts left))) (drop_all i names end) ∙ before-end line_wrappers

-- names that are refused as line wrappers are so as wrappers
pub RefusesAs-map : {A B : Type 0} (f : A → B) (part : Option A) (whole : Option B) (e : ServerWordsFault) → whole ≡ option_map f part → RefusesAs part e → RefusesAs whole e
RefusesAs-map f part whole fault.OutOfMemory same is = tt
RefusesAs-map f part whole fault.BadWrappers same is = same ∙ ap (option_map f) is
RefusesAs-map f part whole fault.Usage same is = absurd is
RefusesAs-map f part whole (fault.UnknownOption c) same is = absurd is
RefusesAs-map f part whole (fault.NoValue c) same is = absurd is
RefusesAs-map f part whole (fault.NotInProfile c) same is = absurd is
RefusesAs-map f part whole (fault.BadNumber c) same is = absurd is
