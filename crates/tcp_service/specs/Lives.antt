-- How the life of a connection begins, and what was told last of it.
use Rattle.std.specs.Prelude.{◌≡◌, ◌⊎◌, ℕ, Bool, true, false, Some, is_ok}
use Rattle.child_jobs.specs.declared.outcome.Status.{Status}
use Rattle.rule_lookup.specs.Peers.{Client}
use Rattle.server_events.specs.declared.event.Event.{Event}
use Rattle.server_events.specs.declared.event.Event.TheVariants.{Admitted, Ended, Retired}
use Rattle.server_yard.specs.Seating.{leaver}
use Rattle.tcp_connections.specs.Rounds.{AllFail, EndsAs, FailsToWait, Kills, OneEnds, rounds}
use Rattle.server_log.specs.Reports.{reported_answer, reported_event}
use Rattle.server_log.specs.declared.log.Reported.{Reported}

-- the admission of a client with a serial was made
pub record IsAdmitted (serial : ℕ) (client : Client) (admitted : Reported) : Type 0 where
  pub made : is_ok (reported_answer admitted) ≡ true
  pub its : reported_event admitted ≡ Admitted serial client

-- this event ends the connection with a serial: it goes, or is retired
abbrev pub IsEndOf : Event → (serial : ℕ) → Type 0
IsEndOf event serial = (leaver event ≡ Some serial) ⊎ (event ≡ Retired serial)

abbrev pub retires : Event → Bool
retires (Retired n) = true
retires event = false

-- the end of a child is told for the connection with a serial: how it ended, by how the rounds of waiting for it went,
-- or that all rounds failed
abbrev pub IsEndOfChild : {J : Type 0} → Kills J → FailsToWait J → EndsAs J → J → Event → (serial : ℕ) → Type 0
IsEndOfChild kills fails ends job event serial =
    ((status : Status) × OneEnds kills fails ends rounds job status × (event ≡ Ended serial status))
    ⊎ (AllFail kills fails rounds job × (event ≡ Retired serial))
