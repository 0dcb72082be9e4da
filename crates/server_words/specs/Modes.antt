-- Which of two a program's standard input and output are: the connection itself, or pipes.
use Rattle.std.specs.Prelude.{ℕ, ◌==◌, List, Option, Some, None, codes, if◌then◌else◌}
use Rattle.server_words.specs.OptionWords.{is_given, last_of}
use Rattle.server_words.specs.Words.{LetterGiven}
use Rattle.server_words.specs.declared.mode.Mode.{Mode}
use Rattle.server_words.specs.declared.mode.Mode.TheVariants.{HandedOver, Pumped}
use Rattle.server_words.specs.Options.{letter}

-- `-s`: handed over; `-S`: pumped; without either as the tool's name says
abbrev pub mode_by : Mode → Option ℕ → Mode
mode_by by_name None = by_name
mode_by by_name (Some last) = if last == letter (codes "s") then HandedOver else Pumped

-- of the two the last given counts
abbrev pub mode_given : Mode → List LetterGiven → Mode
mode_given by_name options = mode_by by_name (last_of options (codes "sS"))

-- wrappers change what passes, so with them the connection is pumped; a last `-s` contradicts them
abbrev pub mode_wrapped : Mode → Option Mode
mode_wrapped HandedOver = None
mode_wrapped Pumped = Some Pumped

-- the mode that options ask for, by that of the tool's name, if `-w` leaves one
abbrev pub mode_in : Mode → List LetterGiven → Option Mode
mode_in by_name options =
    if is_given options (letter (codes "w")) then mode_wrapped (mode_given Pumped options)
    else Some (mode_given by_name options)
