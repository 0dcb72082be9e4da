-- The faults that the checks find, one after another.
use Rattle.std.proofs.Common.{◌≡◌, ℕ, Bool, true, false, cond, List, [], ◌∷◌, ◌++◌, map, find, Option, Some, None, Ok, Err, is_none, refl, ap, ◌∙◌}
use Rattle.std.specs.Prelude.{codes}
use Rattle.std.specs.Result.{result_err}
use Rattle.server_words.specs.declared.option_fault.WordFault.{WordFault}
use Rattle.server_words.specs.OptionWords.{NumberOption, has_bad, value_of}
use Rattle.server_words.specs.Words.{LetterGiven, Reading}
use Rattle.server_words.specs.declared.fault.ServerWordsFault.{ServerWordsFault}
use Rattle.server_words.specs.declared.fault.ServerWordsFault.TheVariants as fault
use Rattle.server_words.specs.declared.mode.Mode.{Mode}
use Rattle.server_words.specs.declared.server_options.ConnectionLimits.{ConnectionLimits}
use Rattle.server_words.specs.Checks.{checks, first_found, found, mode_check, number_check, operands_check, wrapping_check}
use Rattle.server_words.specs.Faults.{fault_of_word}
use Rattle.server_words.specs.Limits.{limits_by, numbers}
use Rattle.server_words.specs.Modes.{mode_in}
use Rattle.server_words.specs.Operands.{Service, operands_in}
use Rattle.server_words.specs.Options.{letter}
use Rattle.server_words.specs.Plans.{options_in, plan_of, with_limits, with_mode, with_options, with_service, with_wrapping}
use Rattle.server_words.specs.Wrappings.{Wrappers, wrapping_in}

-- what comes after the numbers
module _ (by_name : Mode) (options : List LetterGiven) (limits : ConnectionLimits) where
  mode-found : (mode : Option Mode) (service : Service) (wrapping : Wrappers) → result_err (with_mode options limits service wrapping mode) ≡ first_found (found (is_none mode) fault.BadWrappers ∷ [])
  mode-found (Some mode) service wrapping = refl
  mode-found None service wrapping = refl

  last-found : (wrapping : Option Wrappers) (service : Service) → result_err (with_wrapping by_name options limits service wrapping) ≡ first_found (found (is_none wrapping) fault.BadWrappers ∷ mode_check by_name options ∷ [])
  last-found (Some wrapping) service = mode-found (mode_in by_name options) service wrapping
  last-found None service = refl

  service-found : (service : Option Service) → result_err (with_service by_name options limits service) ≡ first_found (found (is_none service) fault.Usage ∷ wrapping_check options ∷ mode_check by_name options ∷ [])
  service-found (Some service) = last-found (wrapping_in (value_of options (letter (codes "w")))) service
  service-found None = refl

-- the first bad one of some numbers, or what comes after them
module _ (by_name : Mode) (read : Reading) where
  rest : List (Option ServerWordsFault)
  rest = operands_check read.rest ∷ wrapping_check read.options ∷ mode_check by_name read.options ∷ []

  found_by : Option NumberOption → Option ServerWordsFault
  found_by bad = result_err (with_limits by_name read (limits_by bad read.options))

  at_number : (n : NumberOption) (bad : Bool) (later : Option NumberOption) (more : List (Option ServerWordsFault)) → found_by later ≡ first_found more → found_by (cond bad (Some n) later) ≡ first_found (found bad (fault.BadNumber n.letter) ∷ more)
  unfolding found_by
  at_number n true later more is = refl
  at_number n false later more is = is

  numbers-found : (ns : List NumberOption) → found_by (find (has_bad read.options) ns) ≡ first_found (map (number_check read.options) ns ++ rest)
  unfolding found_by rest
  numbers-found [] = service-found by_name read.options _ (operands_in read.rest)
  numbers-found (n ∷ ns) = at_number n (has_bad read.options n) _ _ (numbers-found ns)

-- the checks of words whose options were read
pub checks-found : (by_name : Mode) (words : List (List ℕ)) (read : Reading) → options_in words ≡ Ok read → result_err (plan_of by_name words) ≡ first_found (checks by_name read)
unfolding found_by rest
checks-found by_name words read is = ap (λ r. result_err (with_options by_name r)) is ∙ numbers-found by_name read numbers

-- words whose options are refused
pub options-found : (by_name : Mode) (words : List (List ℕ)) (f : WordFault) → options_in words ≡ Err f → plan_of by_name words ≡ Err (fault_of_word f)
options-found by_name words f is = ap (with_options by_name) is
