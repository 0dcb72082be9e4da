-- What stands under the name of the rules file in the call of each step.
use Rattle.std.proofs.Common.{◌≡◌, true, List, ℕ, ◌∷◌}
use Rattle.std.specs.Prelude.{Option, Some}
use Rattle.dir_calls.specs.Directory.{Directory, file_at}
use Rattle.dir_calls.specs.Calls.{renames}
use Rattle.dir_calls.specs.Lasting.{LastsAmong}
use Rattle.dir_calls.proofs.Lasting.{CallKeeps, renames_keeps}
use Rattle.rules_install.proofs.StepFits.{numbered}

-- the whole file is moved there
pub rename_keeps : (d : Directory) (from to bytes : List ℕ) → file_at d from ≡ Some (record { bytes = bytes; synced = true })
    → (olds : List (Option (List ℕ))) → LastsAmong d to olds → CallKeeps (renames from to) d to (Some bytes ∷ olds)
rename_keeps d from to bytes has olds lasts =
    let at = numbered d.files _ _ has in
    renames_keeps d from to at.n bytes at.is at.there olds lasts
