-- The numbers that options give.
use Rattle.std.specs.Prelude.{ℕ, List, [], ◌∷◌, Option, Some, None, Result, Ok, Err, codes, find, unwrap_or}
use Rattle.server_words.specs.declared.option_fault.WordFault.{WordFault}
use Rattle.server_words.specs.declared.option_fault.WordFault.TheVariants as word
use Rattle.server_words.specs.declared.server_options.ConnectionLimits.{ConnectionLimits}
use Rattle.server_words.specs.OptionWords.{NumberOption, has_bad, number_of, number_option}
use Rattle.server_words.specs.Options.{letter}
use Rattle.server_words.specs.Words.{LetterGiven}

-- `-c`: how many connections at once
abbrev pub connections_option : NumberOption
connections_option = number_option (letter (codes "c")) 1 10000

-- `-k`: how many connections in all
abbrev pub count_option : NumberOption
count_option = number_option (letter (codes "k")) 1 4294967295

-- `-m`: how many at once from one address
abbrev pub per_address_option : NumberOption
per_address_option = number_option (letter (codes "m")) 1 10000

-- all options with a number, in the order in which their faults count
abbrev pub numbers : List NumberOption
numbers = connections_option ∷ count_option ∷ per_address_option ∷ []

-- without `-c` 40
abbrev pub connections_in : List LetterGiven → ℕ
connections_in options = unwrap_or (number_of options connections_option) 40

-- without `-m` as many as at once; without `-k` there is no end
abbrev pub limits_given : List LetterGiven → ConnectionLimits
limits_given options = record {
  connections = connections_in options;
  per_address = unwrap_or (number_of options per_address_option) (connections_in options);
  count = number_of options count_option;
}

-- the limits, unless this number is bad
abbrev pub limits_by : Option NumberOption → List LetterGiven → Result ConnectionLimits WordFault
limits_by (Some bad) options = Err (word.BadNumber bad.letter)
limits_by None options = Ok (limits_given options)

-- the limits that options ask for, or the fault of the first of the numbers that is bad
abbrev pub limits_in : List LetterGiven → Result ConnectionLimits WordFault
limits_in options = limits_by (find (has_bad options) numbers) options
