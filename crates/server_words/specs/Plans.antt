-- What the words of `tcpserver` ask for, or the first fault that they have.
use Rattle.std.specs.Prelude.{◌≡◌, ℕ, ◌==◌, Bool, not, List, [], Option, Some, None, Result, Ok, Err, codes, unwrap_or, if◌then◌else◌}
use Rattle.server_words.specs.declared.option_fault.WordFault.{WordFault}
use Rattle.server_words.specs.OptionWords.{is_given, last_of, value_of}
use Rattle.server_words.specs.Words.{LetterGiven, Reading, reading}
use Rattle.server_words.specs.declared.server_options.TheConstants.{TCPSERVER_LETTERS}
use Rattle.rule_lookup.specs.declared.decision.WhenMissing.{WhenMissing}
use Rattle.rule_lookup.specs.declared.decision.WhenMissing.TheVariants.{Allow, Deny}
use Rattle.server_words.specs.declared.fault.ServerWordsFault.{ServerWordsFault}
use Rattle.server_words.specs.declared.fault.ServerWordsFault.TheVariants as fault
use Rattle.server_words.specs.declared.level.Level.{Level}
use Rattle.server_words.specs.declared.level.Level.TheVariants.{Quiet, Errors, All}
use Rattle.server_words.specs.declared.server_options.ConnectionLimits.{ConnectionLimits}
use Rattle.server_words.specs.declared.mode.Mode.{Mode}
use Rattle.server_words.specs.Faults.{fault_of_word}
use Rattle.server_words.specs.Limits.{limits_in}
use Rattle.server_words.specs.Modes.{mode_in}
use Rattle.server_words.specs.Operands.{Service, operands_in}
use Rattle.server_words.specs.Options.{letter, is_last}
use Rattle.server_words.specs.Wrappings.{Wrappers, wrapping_in}

-- what words ask for
pub record ServerPlan : Type 0 where
  -- the lines of the log that are printed
  pub level : Level
  -- whether the port is printed
  pub prints_port : Bool
  -- how many connections are let in
  pub limits : ConnectionLimits
  -- the path of the rules file, and what it means that there is none
  pub rules : Option (List ℕ)
  pub missing : WhenMissing
  -- what is written before the rules are looked at
  pub banner : List ℕ
  -- the path of the host table
  pub hosts : Option (List ℕ)
  -- the name of the server's end
  pub local : Option (List ℕ)
  -- whether the other end's name is taken from the host table, and whether it is removed where that does not confirm it
  pub names_remote : Bool
  pub confirms : Bool
  -- whether a packet is sent at once, however small (TCP_NODELAY)
  pub no_delay : Bool
  -- what a program's standard input and output are
  pub mode : Mode
  -- the wrappers
  pub wrapping : Wrappers
  -- where the server listens, and its program
  pub service : Service

-- `-v`: all; `-q`: nothing; `-Q`, or none of them: errors
abbrev pub level_by : Option ℕ → Level
level_by None = Errors
level_by (Some last) =
    if last == letter (codes "v") then All else (if last == letter (codes "q") then Quiet else Errors)

-- of the three the last given counts
abbrev pub level_of : List LetterGiven → Level
level_of options = level_by (last_of options (codes "vQq"))

-- `-X`: allow
abbrev pub missing_of : List LetterGiven → WhenMissing
missing_of options = if is_given options (letter (codes "X")) then Allow else Deny

-- what options ask for, with what was read of their numbers, of the wrappers, of the mode and of the words after them
abbrev pub plan_by : List LetterGiven → ConnectionLimits → Service → Wrappers → Mode → ServerPlan
plan_by options limits service wrapping mode = record {
  level = level_of options;
  prints_port = is_given options (letter (codes "1"));
  limits = limits;
  rules = value_of options (letter (codes "x"));
  missing = missing_of options;
  banner = unwrap_or (value_of options (letter (codes "B"))) [];
  hosts = value_of options (letter (codes "N"));
  local = value_of options (letter (codes "l"));
  names_remote = not (is_last options (letter (codes "H")) (letter (codes "h")));
  confirms = is_last options (letter (codes "p")) (letter (codes "P"));
  no_delay = is_last options (letter (codes "D")) (letter (codes "d"));
  mode = mode;
  wrapping = wrapping;
  service = service;
}

-- the options that words begin with, and the words after them
abbrev pub options_in : List (List ℕ) → Result Reading WordFault
options_in words = reading TCPSERVER_LETTERS.now words

-- the last check: with wrappers no connection is handed over
abbrev pub with_mode : List LetterGiven → ConnectionLimits → Service → Wrappers → Option Mode → Result ServerPlan ServerWordsFault
with_mode options limits service wrapping (Some mode) = Ok (plan_by options limits service wrapping mode)
with_mode options limits service wrapping None = Err fault.BadWrappers

-- the checks from the wrappers on
abbrev pub with_wrapping : Mode → List LetterGiven → ConnectionLimits → Service → Option Wrappers → Result ServerPlan ServerWordsFault
with_wrapping by_name options limits service (Some wrapping) =
    with_mode options limits service wrapping (mode_in by_name options)
with_wrapping by_name options limits service None = Err fault.BadWrappers

-- from host, port and program on
abbrev pub with_service : Mode → List LetterGiven → ConnectionLimits → Option Service → Result ServerPlan ServerWordsFault
with_service by_name options limits (Some service) =
    with_wrapping by_name options limits service (wrapping_in (value_of options (letter (codes "w"))))
with_service by_name options limits None = Err fault.Usage

-- from the numbers on
abbrev pub with_limits : Mode → Reading → Result ConnectionLimits WordFault → Result ServerPlan ServerWordsFault
with_limits by_name read (Ok limits) = with_service by_name read.options limits (operands_in read.rest)
with_limits by_name read (Err f) = Err (fault_of_word f)

-- what options ask for, and the words after them
abbrev pub plan_behind : Mode → Reading → Result ServerPlan ServerWordsFault
plan_behind by_name read = with_limits by_name read (limits_in read.options)

-- from the option words on
abbrev pub with_options : Mode → Result Reading WordFault → Result ServerPlan ServerWordsFault
with_options by_name (Ok read) = plan_behind by_name read
with_options by_name (Err f) = Err (fault_of_word f)

-- what words ask for, or the first fault that they have; without `-s` and `-S` the mode is that of the tool's name
abbrev pub plan_of : Mode → List (List ℕ) → Result ServerPlan ServerWordsFault
plan_of by_name words = with_options by_name (options_in words)

-- a refusal is the one that is expected, or for want of memory
abbrev pub RefusesPlan : Result ServerPlan ServerWordsFault → ServerWordsFault → Type 0
RefusesPlan expected fault.OutOfMemory = Unit {0}
RefusesPlan expected (fault.UnknownOption c) = expected ≡ Err (fault.UnknownOption c)
RefusesPlan expected (fault.NoValue c) = expected ≡ Err (fault.NoValue c)
RefusesPlan expected (fault.NotInProfile c) = expected ≡ Err (fault.NotInProfile c)
RefusesPlan expected (fault.BadNumber c) = expected ≡ Err (fault.BadNumber c)
RefusesPlan expected fault.Usage = expected ≡ Err fault.Usage
RefusesPlan expected fault.BadWrappers = expected ≡ Err fault.BadWrappers
