-- A step that is refused as over is no event; which installation is kept under a number.
use Rattle.std.proofs.Common.{◌≡◌, ℕ, Bool, true, false, Option, None, Some, refl}
use Rattle.std.specs.Prelude.{Err, if◌then◌else◌}
use Rattle.rules_install.specs.Installing.{Installing}
use Rattle.rules_install.specs.declared.fault.InstallFault.TheVariants.{Over}
use Rattle.server_yard.specs.Rolls.{IsQuiet, NotesSome, Roll}
use Rattle.whole_yard.specs.Standing.{LeadsSome, YardState}
use Rattle.whole_yard.specs.Stepping.{event_of_step}
use Rattle.whole_yard.proofs.Keeping.{none_not_some, same_some}

-- nothing is noted, whatever was under way
pub over_notes : (o : Option Installing) (a b : Roll) → IsQuiet a b → NotesSome (event_of_step o (Err Over)) a b
over_notes None a b quiet = quiet
over_notes (Some s) a b quiet = quiet

-- and no step is made
pub over_leads : (o : Option Installing) (y z : YardState) → z ≡ y → LeadsSome (event_of_step o (Err Over)) y z
over_leads None y z same = same
over_leads (Some s) y z same = same

-- the number that is kept is that of the last that was begun
pub kept_is_last : (kept : Bool) (last number : ℕ) → (if kept then Some last else None) ≡ Some number → last ≡ number
kept_is_last true last number is = same_some last number is
kept_is_last false last number is = absurd (none_not_some number is)

-- where none is under way, there is none under any number
pub none_under : (here : Bool) (o : Option Installing) → o ≡ None → (if here then o else None) ≡ None
none_under true o is = is
none_under false o is = refl
