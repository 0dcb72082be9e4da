-- Whether a way of a connection is recorded.
use Rattle.std.specs.Prelude.{◌≡◌, ℕ, Bool, true, false, Option, None, Some}
use Rattle.byte_streams.specs.Recorders.{number_of, way_of}
use Rattle.byte_streams.specs.declared.recording.Way.{Way}
use Rattle.byte_streams.specs.declared.tap.Recorder.{Recorder}

-- there is a recorder of this number and way exactly if that is asked for
abbrev pub Records : {W : Type 0} → (asked : Bool) → (number : ℕ) → Way → Option (Recorder W) → Type 0
Records asked number way None = asked ≡ false
Records asked number way (Some recorder) = (asked ≡ true) × (number_of recorder ≡ number) × (way_of recorder ≡ way)
