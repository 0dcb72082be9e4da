-- A child that runs, with its place.
use Rattle.std.specs.Prelude.{◌≡◌, ℕ}
use Rattle.child_jobs.specs.Variables.{Variables}
use Rattle.child_jobs.specs.Programs.{ProgramText}
use Rattle.child_jobs.specs.declared.running.Running.{Running}

-- a job of the same program with the same variables
pub record IsSameChild {J : Type 0} (program_of : J → ProgramText) (environment_of : J → Variables) (old new : J) : Type 0 where
  pub program : program_of new ≡ program_of old
  pub environment : environment_of new ≡ environment_of old

-- the index of its place
abbrev pub place_of : {L : _} {J : Type 0} → Running L J → ℕ
place_of running = running.place

abbrev pub job_of : {L : _} {J : Type 0} → Running L J → J
job_of running = running.job

-- the same place, and a job of the same program with the same variables; the functions say what a job tells of these
abbrev pub IsSameRun : {L : _} {J : Type 0} → (J → ProgramText) → (J → Variables) → (old new : Running L J) → Type 0
IsSameRun program_of environment_of old new = IsSameChild program_of environment_of (job_of old) (job_of new) × (place_of new ≡ place_of old)
