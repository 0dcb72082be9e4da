-- What a recorder writes.
use Rattle.std.specs.Prelude.{◌≡◌, Bool, true, false, ℕ, zero, suc, List, [], ◌∷◌, length, map, take, drop}
use Rattle.std.specs.List.{concat}
use Rattle.std.specs.declared.option.Option.{Option}
use Rattle.std.specs.Io.KnownBytes.{Appends}
use Rattle.byte_streams.specs.Records.{longest_piece, record_text}
use Rattle.byte_streams.specs.declared.recording.Way.{Way}
use Rattle.byte_streams.specs.declared.tap.Recorder.{Recorder}

-- its number, its way and its writer, and whether memory was lacking or a write failed
abbrev pub number_of : {W : Type 0} → Recorder W → ℕ
number_of recorder = recorder.number

abbrev pub way_of : {W : Type 0} → Recorder W → Way
way_of recorder = recorder.way

abbrev pub writer_of : {W : Type 0} → Recorder W → W
writer_of recorder = recorder.writer

abbrev pub has_failed : {W : Type 0} → Recorder W → Bool
has_failed recorder = recorder.failed

-- it wrote a text, unless it had failed or fails now; once it has failed it writes no more
pub record Writes {W : Type 0} (contents : W → Option (List ℕ)) (old : Recorder W) (text : List ℕ) (new : Recorder W) : Type 0 where
  pub number : number_of new ≡ number_of old
  pub way : way_of new ≡ way_of old
  pub stays : has_failed old ≡ true → (has_failed new ≡ true) × (writer_of new ≡ writer_of old)
  pub wrote : has_failed new ≡ false → Appends (contents (writer_of old)) (contents (writer_of new)) text

-- the front of a text, cut into this many pieces of a length; the last may be shorter
abbrev pub first_pieces : (count longest : ℕ) → List ℕ → List (List ℕ)
first_pieces zero longest text = []
first_pieces (suc count) longest [] = []
first_pieces (suc count) longest (b ∷ bs) = take longest (b ∷ bs) ∷ first_pieces count longest (drop longest (b ∷ bs))

-- a text, cut into pieces of this length, which is not 0: the last may be shorter, and none is empty
abbrev pub pieces_in : (longest : ℕ) → List ℕ → List (List ℕ)
pieces_in longest text = first_pieces (length text) longest text

-- the records of the pieces of a text, each as long as the piece of a record with this number may be
abbrev pub records_text : ℕ → Way → List ℕ → List ℕ
records_text number way text = concat (map (record_text number way) (pieces_in (longest_piece number) text))
