-- The settings of a line, whose names are looked at one after another.
use Rattle.std.proofs.Common.{◌≡◌, ℕ, Bool, true, false, ◌||◌, List, [], ◌∷◌, Option, Some, None, refl, sym, ap, ◌∙◌}
use Rattle.std.specs.Prelude.{option_map, option_and_then}
use Rattle.std.specs.List.{list_any}
use Rattle.std.specs.Option.{option_map_or}
use Rattle.rule_lookup.specs.Settings.{Assignment, Front, setting_at, settings_of}
use Rattle.rule_lines.proofs.ReadLemmas.{settings_of-comma}
use Rattle.rule_warnings.specs.Names.{has_blank, is_blank_setting}

-- a blank was found, or is in a name of the rest
abbrev pub blank_with : Bool → List ℕ → Bool
blank_with found rest = option_map_or (λ settings. found || list_any is_blank_setting settings) (settings_of true rest) false

or_assoc : (a b c : Bool) → ((a || b) || c) ≡ (a || (b || c))
or_assoc true b c = refl
or_assoc false b c = refl

pub or_none : (a : Bool) → (a || false) ≡ a
or_none true = refl
or_none false = refl

-- a setting is looked at by itself, or with those behind it
onto_blank : (found : Bool) (setting : Assignment) (later : Option (List Assignment)) → option_map_or (λ settings. (found || is_blank_setting setting) || list_any is_blank_setting settings) later false ≡ option_map_or (λ settings. found || list_any is_blank_setting settings) (option_map (λ (settings : List Assignment). setting ∷ settings) later) false
onto_blank found setting None = refl
onto_blank found setting (Some settings) = or_assoc found (is_blank_setting setting) (list_any is_blank_setting settings)

-- the rest begins with a setting
pub blank_with-next : (found : Bool) (rest bs : List ℕ) (b : ℕ) (front : Front) → rest ≡ b ∷ bs → b ≡ 44 → setting_at true bs ≡ Some front → blank_with (found || is_blank_setting front.setting) front.rest ≡ blank_with found rest
blank_with-next found rest bs b front begins comma is =
    onto_blank found front.setting (settings_of true front.rest)
    ∙ sym (ap (λ (settings : Option (List Assignment)). option_map_or (λ settings. found || list_any is_blank_setting settings) settings false)
    (ap (settings_of true) (begins ∙ ap (λ x. x ∷ bs) comma) ∙ settings_of-comma true bs
    ∙ ap (option_and_then (λ (front : Front). option_map (λ (settings : List Assignment). front.setting ∷ settings) (settings_of true front.rest))) is))
