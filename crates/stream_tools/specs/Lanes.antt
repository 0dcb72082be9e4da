-- What became of what was handed over to a pump, and of a program between two pumps.
use Rattle.std.specs.Prelude.{◌≡◌, ◌≢◌, ◌^◌, ℕ, List, [], false, None}
use Rattle.byte_streams.specs.Pumps.{KnownBytes, Pumped, ends_of}
use Rattle.byte_streams.specs.Recorders.{number_of, way_of, writer_of}
use Rattle.byte_streams.specs.Recorders.{has_failed as has_recorder_failed}
use Rattle.byte_streams.specs.Taps.{shown_to}
use Rattle.byte_streams.specs.declared.tap.NoTap.{NoTap}
use Rattle.byte_streams.specs.declared.tap.Recorder.{Recorder}
use Rattle.byte_streams.specs.declared.pumping.PumpEnd.{PumpEnd}
use Rattle.byte_streams.specs.declared.pumping.Why.TheVariants.{Failed, ReadsOver}
use Rattle.child_jobs.specs.Programs.{ProgramText}
use Rattle.byte_streams.specs.Watches.{reader_of}
use Rattle.byte_streams.specs.declared.watched.Watched.{Watched}
use Rattle.child_jobs.specs.declared.outcome.NotStarted.{NotStarted}
use Rattle.child_jobs.specs.declared.outcome.StartFault.{StartFault}
use Rattle.child_jobs.specs.declared.outcome.StartFault.TheVariants as fault
use Rattle.child_jobs.specs.Variables.{Variables}
use Rattle.byte_streams.specs.Chains.{has_failed, wrappers_of}
use Rattle.byte_streams.specs.Wrappers.{Writing, fixed_from, through}
use Rattle.byte_streams.specs.Wrapped.{fixed}
use Rattle.byte_streams.specs.declared.chain.Chain.{Chain}
use Rattle.byte_streams.specs.declared.recording.Way.{Way}
use Rattle.byte_streams.specs.declared.wrappers.FixCr.{FixCr}
use Rattle.stream_tools.specs.declared.between.BetweenFailure.{BetweenFailure}
use Rattle.stream_tools.specs.declared.between.BetweenFault.{BetweenFault}
use Rattle.stream_tools.specs.declared.between.BetweenFault.TheVariants.{CannotStart, OutOfMemory}
use Rattle.stream_tools.specs.declared.between.Lane.{Lane}

-- what a wrapper of a lane will write
abbrev pub fixing : Writing FixCr
fixing wrapper = fixed_from wrapper.after_cr

-- From this reader a pump ran to this writer, through this chain and under the eyes of this tap, and ended so; it left the four as they are now. It
-- read until one of its ends ended, or 2^40 times. The functions are those of `ends_of` and `shown_to`.
pub record Ran {R W T : Type 0}
    (remaining : KnownBytes R) (contents : KnownBytes W)
    (watches : T → Way) (sees : T → List ℕ → T → Type 0) (ends : T → T → Type 0)
    (reader : R) (writer : W) (chain : Chain FixCr) (tap : T) (end : PumpEnd) : Type 0 where
  pub reader-now : R
  pub writer-now : W
  pub chain-now : Chain FixCr
  pub tap-now : T
  pub pumped : Pumped (ends_of remaining contents fixing reader writer chain)
      (ends_of remaining contents fixing reader-now writer-now chain-now)
      (shown_to watches sees ends tap tap-now) end
  pub over : end.why ≡ ReadsOver → end.reads ≡ 2 ^ 40
  pub ready : has_failed chain ≡ false → end.why ≢ Failed

-- The input of a program: a pump ran from the stream of this lane, which was watched, to a pipe of the program, and ended so. So nothing is known of
-- what the stream has left. The functions are those of `Ran`.
pub record Fed {I P T : Type 0} (contents : KnownBytes P)
    (watches : T → Way) (sees : T → List ℕ → T → Type 0) (ends : T → T → Type 0)
    (lane : Lane I T) (end : PumpEnd) : Type 0 where
  pub to : P
  pub watched : Watched I
  pub reader : reader_of watched ≡ lane.stream
  pub ran : Ran (λ _. None) contents watches sees ends watched to lane.chain lane.tap end

-- The output of a program: a pump ran from a pipe of the program to the stream of this lane, and ended so.
pub record Drained {P O T : Type 0}
    (remaining : KnownBytes P) (contents : KnownBytes O)
    (watches : T → Way) (sees : T → List ℕ → T → Type 0) (ends : T → T → Type 0)
    (lane : Lane O T) (end : PumpEnd) : Type 0 where
  pub from : P
  pub ran : Ran remaining contents watches sees ends from lane.stream lane.chain lane.tap end

-- a lane over this stream, in which each line gets a carriage return where it has none
abbrev pub IsFixing : {E : Type 0} → E → Lane E NoTap → Type 0
IsFixing stream lane = (lane.stream ≡ stream) × (through fixing (wrappers_of lane.chain) ≡ fixed)

-- a lane over this stream, which changes nothing and is recorded with this number and way
pub record IsRecording {E W : Type 0} (number : ℕ) (way : Way) (errors : W) (stream : E) (lane : Lane E (Recorder W)) : Type 0 where
  pub over : lane.stream ≡ stream
  pub plain : wrappers_of lane.chain ≡ []
  pub numbered : number_of lane.tap ≡ number
  pub goes : way_of lane.tap ≡ way
  pub writes : writer_of lane.tap ≡ errors
  pub works : has_recorder_failed lane.tap ≡ false

-- what is told of a program that its launcher did not start
abbrev pub refusal_of : StartFault → BetweenFault
refusal_of fault.OutOfMemory = OutOfMemory
refusal_of fault.NotFound = CannotStart
refusal_of fault.Refused = CannotStart
refusal_of fault.Other = CannotStart

-- this job runs this program with these variables; the functions say what a job tells of these
abbrev pub IsRunOf : {J : Type 0} → (J → ProgramText) → (J → Variables) → ProgramText → Variables → J → Type 0
IsRunOf program_of environment_of program environment job = (program_of job ≡ program) × (environment_of job ≡ environment)

-- why a launcher may refuse a program with variables
abbrev pub LauncherRefuses : Type 0 → Type 1
LauncherRefuses L = L → ProgramText → Variables → NotStarted → Type 0

-- a launcher did not start this program with these variables, and that is told of it; the function says why it may not have
abbrev pub IsNotStarted : {L : Type 0} → LauncherRefuses L → L → ProgramText → Variables → BetweenFailure → Type 0
IsNotStarted refuses launcher program environment told =
    (refusal : NotStarted) × refuses launcher program environment refusal
    × (told ≡ record { fault = refusal_of refusal.fault; error = refusal.error })

-- what is told of a program that was started and could not be served
abbrev pub not_served : BetweenFailure
not_served = record { fault = CannotStart; error = None }
