-- What is told behind the line of a fault of words.
use Rattle.std.specs.Prelude.{ℕ, ◌==◌, List, [], ◌∷◌, ◌++◌, Result, Ok, Err, codes, is_none, if◌then◌else◌}
use Rattle.byte_text.specs.Causes.{cause_text}
use Rattle.server_words.specs.declared.fault.ServerWordsFault.{ServerWordsFault}
use Rattle.server_words.specs.declared.fault.ServerWordsFault.TheVariants.{Usage, NotInProfile, BadNumber, BadWrappers}
use Rattle.server_words.specs.declared.option_fault.WordFault.{WordFault}
use Rattle.fault_hints.specs.declared.words.Lacking.{Lacking}
use Rattle.fault_hints.specs.declared.words.Lacking.TheVariants.{Host, Port, Program}
use Rattle.fault_hints.specs.declared.words.TheConstants.{HOSTS, PEERS, PORTS, USERS, WRAPPERS}
use Rattle.fault_hints.specs.declared.voice.Detail.{Detail}
use Rattle.fault_hints.specs.declared.voice.Detail.TheVariants.{Line, Cause, Hint}
use Rattle.fault_hints.specs.declared.voice.Voice.{Voice}
use Rattle.server_words.specs.declared.server_options.TheConstants.{HEARD_LETTERS, NUMBERS_HINT, OPTIONS}
use Rattle.server_words.specs.Operands.{address_in, port_in}
use Rattle.server_words.specs.Options.{letter}
use Rattle.server_words.specs.Plans.{level_of}
use Rattle.fault_hints.specs.Voices.{detail_of}
use Rattle.server_words.specs.Words.{Reading, reading}

-- what is lacking: a host or a port, where this word is none; or a program, or any word before it
pub data Lacks : Type 0 where
  no_host : List ℕ → Lacks
  no_port : List ℕ → Lacks
  no_program : Lacks

-- what was found to be lacking
abbrev pub what_lacks : Lacking → Lacks
what_lacks (Host word) = no_host word.now
what_lacks (Port word) = no_port word.now
what_lacks Program = no_program

-- of the words after a host
abbrev pub lacking_behind : List (List ℕ) → Lacks
lacking_behind [] = no_program
lacking_behind (port ∷ rest) = if is_none (port_in port) then no_port port else no_program

-- of the words after the options: the first of host, port and program that is lacking
abbrev pub lacking_in : List (List ℕ) → Lacks
lacking_in [] = no_program
lacking_in (host ∷ rest) = if is_none (address_in host) then no_host host else lacking_behind rest

-- why a word is no host, and no port; a hint says what may stand there
abbrev pub host_text : Detail → List ℕ
host_text Hint = HOSTS.now
host_text detail = codes "no host"

abbrev pub port_text : Detail → List ℕ
port_text Hint = PORTS.now
port_text detail = codes "no port"

-- the line of what is lacking
abbrev pub lacking_line : Detail → Lacks → List ℕ
lacking_line detail (no_host word) = cause_text (codes "tcpserver") word (host_text detail)
lacking_line detail (no_port word) = cause_text (codes "tcpserver") word (port_text detail)
lacking_line detail no_program = codes "tcpserver: cause: no program\n"

-- what to do for a letter that is refused: `-r` asks for what is not known, and the others are about users
abbrev pub refused_hint : ℕ → List ℕ
refused_hint refused = if refused == letter (codes "r") then PEERS.now else USERS.now

-- what is told with this detail behind a fault of words, of which these stand behind the options
abbrev pub help_text : Detail → ServerWordsFault → List (List ℕ) → List ℕ
help_text Cause Usage rest = lacking_line Cause (lacking_in rest)
help_text Hint Usage rest = lacking_line Hint (lacking_in rest) ++ OPTIONS.now
help_text Hint (NotInProfile refused) rest = refused_hint refused
help_text Hint (BadNumber bad) rest = NUMBERS_HINT.now
help_text Hint BadWrappers rest = WRAPPERS.now
help_text detail fault rest = []

-- the level is that of the options, letters that are refused among them; where they can't be read nothing is told
abbrev pub help_by : Voice → ServerWordsFault → Result Reading WordFault → List ℕ
help_by voice fault (Ok read) = help_text (detail_of voice (level_of read.options)) fault read.rest
help_by voice fault (Err f) = []

-- what a voice tells behind this fault of words
abbrev pub help_of : Voice → ServerWordsFault → List (List ℕ) → List ℕ
help_of voice fault words = help_by voice fault (reading HEARD_LETTERS.now words)
