-- What turns answer by which a yard itself opens the rules, or makes a step of an installation.
use Rattle.std.specs.Prelude.{◌≡◌, ◌+◌, ◌-◌, ◌^◌, ◌⊎◌, ℕ, Option, None, Some, Result, Err, IfErr, IfOk, IfSome, OnErr, is_some, option_map}
use Rattle.server_events.specs.Journals.{one_more}
use Rattle.rules_install.specs.Installing.{Installing}
use Rattle.rules_install.specs.Installs.{installing}
use Rattle.dir_calls.specs.declared.phase.Phase.{Phase}
use Rattle.rules_install.specs.declared.fault.InstallFault.{InstallFault}
use Rattle.rules_install.specs.declared.install.Install.{Install}
use Rattle.server_events.specs.declared.event.Event.{Event}
use Rattle.server_events.specs.declared.event.Event.TheVariants.{Opened}
use Rattle.server_yard.specs.Evidence.{made_event}
use Rattle.server_yard.specs.Passes.{pass_file, pass_serial}
use Rattle.whole_yard.specs.Stepping.{BeginAnswer, HandsBack, begin_event, step_event}
use Rattle.server_yard.specs.declared.pass.Pass.{Pass}
use Rattle.server_yard.specs.declared.evidence.Made.{Made}
use Rattle.server_yard.specs.Seating.{KeepsSeats}
use Rattle.whole_yard.specs.Callers.{spoken_by}
use Rattle.whole_yard.specs.Receipts.{receipt_after, receipt_of}
use Rattle.whole_yard.specs.WholeYards.{IsSameBesides, whole_roll, whole_seat}
use Rattle.whole_yard.specs.declared.yard.WholeYard.{WholeYard}
use Rattle.whole_yard.specs.declared.open_turn.OpenFault.{OpenFault}
use Rattle.whole_yard.specs.declared.open_turn.OpenFault.TheVariants.{Device}

-- one event more if one was made, and otherwise none
abbrev pub CountsMade : Option Made → (before after : ℕ) → Type 0
CountsMade None before after = after ≡ before
CountsMade (Some made) before after = after ≡ one_more before

-- one failure more is counted if the device is blamed, unless the count is at its end; otherwise none
abbrev pub CountsDevice : {T : Type 0} → ℕ → ℕ → Result T OpenFault → Type 0
CountsDevice before now (Err Device) = (now ≡ before + 1) ⊎ ((now ≡ before) × (before ≡ 2 ^ 64 - 1))
CountsDevice before now result = now ≡ before

-- the event that a connection opened the rules
abbrev pub opened_by : {L F : Type 0} → (serial : ℕ) → Pass L F → Event
opened_by serial pass = Opened serial (is_some (pass_file pass))

-- the caller with this number opened the rules for a connection, by the next event after this many; or no event was
-- made
abbrev pub OpensOrNot : {L F O : Type 0} → (serial : ℕ) → (who before : ℕ)
    → Result (Pass L F × Made) O → (after : ℕ) → Type 0
OpensOrNot serial who before answer after =
    IfOk answer (λ r. (pass_serial r.0 ≡ serial)
    × (receipt_of r.1 ≡ receipt_after before who (opened_by serial r.0)) × (after ≡ one_more before))
    × OnErr answer (after ≡ before)

-- the caller began an installation: its first step, or a fault of the directory, is the next event; otherwise there is
-- no event, and a refused installation is handed back
abbrev pub BeginsOrNot : Installing → (who before : ℕ) → BeginAnswer Install × Option Made → (after : ℕ) → Type 0
BeginsOrNot install who before answer after =
    (option_map receipt_of answer.1 ≡ option_map (receipt_after before who) (begin_event answer.0))
    × CountsMade answer.1 before after
    × IfErr answer.0 (λ r. HandsBack install (installing r.0) r.1)

-- it made the next step of one: that step, or a fault of the directory, is the next event; otherwise there is no event
abbrev pub StepsOrNot : (who before : ℕ) → Result Phase InstallFault × Option Made → (after : ℕ) → Type 0
StepsOrNot who before answer after =
    IfSome answer.1 (λ made. (step_event answer.0 ≡ Some (made_event made))
    × (receipt_of made ≡ receipt_after before who (made_event made)))
    × CountsMade answer.1 before after

-- a yard is as before, but for the speaker
pub record IsOnlySpoken {L D F : Type 0} {p : _} {l : _} {d : _} {f : _} (who : ℕ) (old new : WholeYard L D F p l d f) : Type 0 where
  pub roll : whole_roll new ≡ spoken_by who (whole_roll old)
  pub beside : IsSameBesides old new
  pub seats : KeepsSeats (whole_seat old) (whole_seat new)
