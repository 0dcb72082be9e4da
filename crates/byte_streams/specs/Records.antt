-- The lines that record pieces of a stream.
use Rattle.std.specs.Prelude.{ℕ, ◌^◌, List, [], ◌∷◌, ◌++◌, codes, decimal, nat_lt, if◌then◌else◌}
use Rattle.byte_streams.specs.declared.recording.Way.{Way}
use Rattle.byte_streams.specs.declared.recording.Way.TheVariants.{Input, Output}
use Rattle.byte_streams.specs.Wrapped.{parts_of, written}

abbrev pub way_text : Way → List ℕ
way_text Input = codes " < "
way_text Output = codes " > "

abbrev pub before_part : ℕ → Way → List ℕ
before_part number way = decimal number ++ way_text way

-- a part that a line feed ended is followed by a blank, the rest of a piece by a plus
abbrev pub line_text : ℕ → Way → List ℕ → List ℕ
line_text number way part = before_part number way ++ part ++ codes " \n"

-- what stands behind the last line feed has a line only if it is not empty
abbrev pub rest_text : ℕ → Way → List ℕ → List ℕ
rest_text number way [] = []
rest_text number way (b ∷ bs) = before_part number way ++ (b ∷ bs) ++ codes "+\n"

abbrev pub record_text : ℕ → Way → List ℕ → List ℕ
record_text number way piece = written (line_text number way) (rest_text number way) (parts_of piece)

abbrev pub end_text : ℕ → Way → List ℕ
end_text number way = before_part number way ++ codes "[EOF]\n"

-- The length of the longest piece of a record with this number. Its lines fit into what a pipe takes whole; a piece of
-- line feeds alone has the most. A number of more than ten digits stands in shorter pieces.
abbrev pub longest_piece : ℕ → ℕ
longest_piece number = if nat_lt number (10 ^ 10) then 256 else 160
