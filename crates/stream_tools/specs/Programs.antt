-- The program that words name, and the number of a recorder.
use Rattle.std.specs.Prelude.{ℕ, List, [], ◌∷◌, map, Vec, Option, Some, None, nat_le, length, unwrap_or, if◌then◌else◌}
use Rattle.std.specs.declared.alloc.Global.{Global}
use Rattle.std.specs.Str.{is_utf8}
use Rattle.child_jobs.specs.Programs.{ProgramText}
use Rattle.server_words.specs.Numbers.{number_in}

-- words, as the bytes that they are
abbrev pub texts_of : List (Vec ℕ Global) → List (List ℕ)
texts_of words = map (λ (word : Vec ℕ Global). word.items) words

-- a word that is not UTF-8 counts as empty
abbrev pub text_in : List ℕ → List ℕ
text_in word = if is_utf8 word then word else []

-- the program that words name
abbrev pub program_by : List (List ℕ) → ProgramText
program_by [] = record { path = []; args = [] }
program_by (path ∷ words) = record { path = text_in path; args = map text_in words }

-- the number of a recorder: that of a text of one to five digits with a value up to 65535, else 0
abbrev pub recorder_number : Option (List ℕ) → ℕ
recorder_number None = 0
recorder_number (Some text) = if nat_le (length text) 5 then unwrap_or (number_in text 0 65535) 0 else 0
