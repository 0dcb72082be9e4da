-- Which tool words ask for.
use Rattle.std.specs.Prelude.{◌≡◌, ◌+◌, ℕ, Bool, true, false, ◌&&◌, drop, List, [], ◌∷◌, Option, Some, None, codes, bytes_eq, if◌then◌else◌}
use Rattle.std.specs.List.{list_all}
use Rattle.std.specs.Str.{is_utf8}
use Rattle.memchr.specs.Find.{IsLastByte, is_byte}
use Rattle.fault_hints.specs.Voices.{detail_of}
use Rattle.fault_hints.specs.declared.voice.Detail.{Detail}
use Rattle.fault_hints.specs.declared.voice.Detail.TheVariants.{Line}
use Rattle.fault_hints.specs.declared.voice.Voice.{Voice}
use Rattle.fault_hints.specs.declared.voice.Voice.TheVariants.{Plain, Helpful}
use Rattle.server_words.specs.declared.level.Level.TheVariants.{Errors, All}
use Rattle.stream_tools.specs.Programs.{texts_of}
use Rattle.ucspi_tools.specs.declared.choice.ToolChoice.{ToolChoice}
use Rattle.ucspi_tools.specs.declared.choice.ToolChoice.TheVariants as choice
use Rattle.server_words.specs.declared.server_options.TheConstants.{OPTIONS}
use Rattle.ucspi_tools.specs.declared.tool.TheConstants.{CHECK_WORDS, FILTER_WORDS, PROGRAM_WORDS, RULES_WORDS, SCRIPT_WORDS}
use Rattle.ucspi_tools.specs.declared.tool.Tool.{Tool}
use Rattle.ucspi_tools.specs.declared.tool.Tool.TheVariants.{Tcpserver, Rulesim, Tcprules, Tcprulescheck, Addcr, Delcr, Fixcrio, Recordio}

-- a run of `tcpserver` in this voice with its words; of `rulesim`, or without words, at a terminal, a line for each tool;
-- of `tcprules` with the paths of the rules file and of
-- the scratch file; of `tcprules` over a text alone, and whether a warning makes it fail; of `tcprulescheck` with the path
-- of the rules file; of `addcr`; of `delcr`; of `recordio`, where it is recorded, or of `fixcrio`, with a program and its
-- arguments; the version of the program; a line for each tool; the words of a tool, a line each; the usage line of a tool;
-- or that of `ucspi`. A detail says what is told behind the line of a fault
pub data Wanted : Type 0 where
  serves : Voice → List (List ℕ) → Wanted
  simulates : Wanted
  unasked : Wanted
  installs : Detail → List ℕ → List ℕ → Wanted
  reviews : Detail → Bool → Wanted
  checks : Detail → List ℕ → Wanted
  adds : Wanted
  deletes : Wanted
  passes : Bool → Detail → List (List ℕ) → Wanted
  version : Wanted
  help : Wanted
  help_of : Tool → Wanted
  usage_of : Detail → Tool → Wanted
  usage : Wanted

-- what a choice that was read is
abbrev pub wanted : ToolChoice → Wanted
wanted (choice.Tcpserver voice words) = serves voice (texts_of words.now)
wanted choice.Rulesim = simulates
wanted choice.Unasked = unasked
wanted (choice.Tcprules detail cdb tmp) = installs detail cdb.now tmp.now
wanted (choice.Review detail strict) = reviews detail strict
wanted (choice.Tcprulescheck detail cdb) = checks detail cdb.now
wanted choice.Addcr = adds
wanted choice.Delcr = deletes
wanted (choice.Passing recorded detail words) = passes recorded detail (texts_of words.now)
wanted choice.Version = version
wanted choice.Help = help
wanted (choice.HelpOf tool) = help_of tool
wanted (choice.UsageOf detail tool) = usage_of detail tool
wanted choice.Usage = usage

-- what is told behind the line of a fault where the words say nothing of it, and where they ask for causes
abbrev pub plain_detail : Voice → Detail
plain_detail voice = detail_of voice Errors

abbrev pub detail_by : Voice → Bool → Detail
detail_by voice true = detail_of voice All
detail_by voice false = plain_detail voice

-- a tool that has no words of its own
abbrev pub alone : Voice → Wanted → Tool → List (List ℕ) → Wanted
alone voice run tool [] = run
alone voice run tool (word ∷ words) = usage_of (plain_detail voice) tool

-- the words of `tcpserver` are text; what they have to be beside that `read_server_words` tells. Whether others ask for quiet is not known
abbrev pub tcpserver_by : Voice → List (List ℕ) → Wanted
tcpserver_by voice words = if list_all is_utf8 words then serves voice words else usage_of Line Tcpserver

-- a first word `-v` asks for causes
abbrev pub is_verbose : List (List ℕ) → Bool
is_verbose [] = false
is_verbose (word ∷ words) = bytes_eq word (codes "-v")

-- the words but for that one
abbrev pub operands_by : Bool → List (List ℕ) → List (List ℕ)
operands_by true words = drop 1 words
operands_by false words = words

abbrev pub operands : List (List ℕ) → List (List ℕ)
operands words = operands_by (is_verbose words) words

-- `tcprules` has two paths, which are text
abbrev pub tcprules_at : Voice → Bool → List (List ℕ) → Wanted
tcprules_at voice verbose (cdb ∷ tmp ∷ []) =
    if is_utf8 cdb && is_utf8 tmp then installs (detail_by voice verbose) cdb tmp else usage_of (plain_detail voice) Tcprules
tcprules_at voice verbose words = usage_of (plain_detail voice) Tcprules

-- a first word `-n` or `-N` asks for the warnings of a text alone; by the second a warning makes it fail
abbrev pub strictness : List (List ℕ) → Option Bool
strictness [] = None
strictness (word ∷ words) = if bytes_eq word (codes "-n") then Some false else (if bytes_eq word (codes "-N") then Some true else None)

-- no other word goes with it
abbrev pub tcprules_under : Voice → Option Bool → List (List ℕ) → Wanted
tcprules_under voice (Some strict) words = alone voice (reviews (plain_detail voice) strict) Tcprules (drop 1 words)
tcprules_under voice None words = tcprules_at voice (is_verbose words) (operands words)

abbrev pub tcprules_by : Voice → List (List ℕ) → Wanted
tcprules_by voice words = tcprules_under voice (strictness words) words

-- `tcprulescheck` has one
abbrev pub tcprulescheck_at : Voice → Bool → List (List ℕ) → Wanted
tcprulescheck_at voice verbose (cdb ∷ []) = if is_utf8 cdb then checks (detail_by voice verbose) cdb else usage_of (plain_detail voice) Tcprulescheck
tcprulescheck_at voice verbose words = usage_of (plain_detail voice) Tcprulescheck

abbrev pub tcprulescheck_by : Voice → List (List ℕ) → Wanted
tcprulescheck_by voice words = tcprulescheck_at voice (is_verbose words) (operands words)

-- the tool that records what it passes on, and the one that doesn't
abbrev pub passing : Bool → Tool
passing true = Recordio
passing false = Fixcrio

-- the words of both are a program and its arguments, which are text
abbrev pub passes_by : Voice → Bool → List (List ℕ) → Wanted
passes_by voice recorded [] = usage_of (plain_detail voice) (passing recorded)
passes_by voice recorded (word ∷ words) =
    if list_all is_utf8 (word ∷ words) then passes recorded (plain_detail voice) (word ∷ words)
    else usage_of (plain_detail voice) (passing recorded)

-- in this voice
abbrev pub run_of : Voice → Tool → List (List ℕ) → Wanted
run_of voice Tcpserver words = tcpserver_by voice words
run_of voice Rulesim words = alone voice simulates Rulesim words
run_of voice Tcprules words = tcprules_by voice words
run_of voice Tcprulescheck words = tcprulescheck_by voice words
run_of voice Addcr words = alone voice adds Addcr words
run_of voice Delcr words = alone voice deletes Delcr words
run_of voice Fixcrio words = passes_by voice false words
run_of voice Recordio words = passes_by voice true words

-- the name of a tool
abbrev pub name_of : Tool → List ℕ
name_of Tcpserver = codes "tcpserver"
name_of Rulesim = codes "rulesim"
name_of Tcprules = codes "tcprules"
name_of Tcprulescheck = codes "tcprulescheck"
name_of Addcr = codes "addcr"
name_of Delcr = codes "delcr"
name_of Fixcrio = codes "fixcrio"
name_of Recordio = codes "recordio"

-- its name, and what it takes
abbrev pub usage_text : Tool → List ℕ
usage_text Tcpserver = codes "tcpserver [options] host port prog [args]"
usage_text Rulesim = codes "rulesim"
usage_text Tcprules = codes "tcprules cdb tmp"
usage_text Tcprulescheck = codes "tcprulescheck cdb"
usage_text Addcr = codes "addcr"
usage_text Delcr = codes "delcr"
usage_text Fixcrio = codes "fixcrio prog [args]"
usage_text Recordio = codes "recordio prog [args]"

-- what it is for
abbrev pub purpose_text : Tool → List ℕ
purpose_text Tcpserver = codes "starts a program for each connection that rules allow"
purpose_text Rulesim = codes "tries rules, crashes and lists of events on paper"
purpose_text Tcprules = codes "compiles and installs the rules of who may connect"
purpose_text Tcprulescheck = codes "tells which rule decides a connection"
purpose_text Addcr = codes "puts a carriage return before each line feed"
purpose_text Delcr = codes "takes carriage returns at ends of lines away"
purpose_text Fixcrio = codes "runs a program and puts missing carriage returns into its streams"
purpose_text Recordio = codes "runs a program and records what it reads and writes"

-- what its words are, a line each
abbrev pub words_text : Tool → List ℕ
words_text Tcpserver = OPTIONS.now
words_text Rulesim = SCRIPT_WORDS.now
words_text Tcprules = RULES_WORDS.now
words_text Tcprulescheck = CHECK_WORDS.now
words_text Addcr = FILTER_WORDS.now
words_text Delcr = FILTER_WORDS.now
words_text Fixcrio = PROGRAM_WORDS.now
words_text Recordio = PROGRAM_WORDS.now

-- the tool with a name
abbrev pub tool_of : List ℕ → Option Tool
tool_of name =
    if bytes_eq name (name_of Tcpserver) then Some Tcpserver
    else (if bytes_eq name (name_of Rulesim) then Some Rulesim
    else (if bytes_eq name (name_of Tcprules) then Some Tcprules
    else (if bytes_eq name (name_of Tcprulescheck) then Some Tcprulescheck
    else (if bytes_eq name (name_of Addcr) then Some Addcr
    else (if bytes_eq name (name_of Delcr) then Some Delcr
    else (if bytes_eq name (name_of Fixcrio) then Some Fixcrio
    else (if bytes_eq name (name_of Recordio) then Some Recordio else None)))))))

-- a word that names no tool, which may ask for the version or for help where it stands alone
abbrev pub asked_by : List ℕ → List (List ℕ) → Wanted
asked_by word [] = if bytes_eq word (codes "--version") then version else (if bytes_eq word (codes "--help") then help else usage)
asked_by word (other ∷ words) = usage

-- the first word names the tool, which is then `ucspi`'s
abbrev pub run_by : Option Tool → List ℕ → List (List ℕ) → Wanted
run_by (Some tool) word words = run_of Plain tool words
run_by None word words = asked_by word words

-- with no words nothing is asked for
abbrev pub choice_by_word : List (List ℕ) → Wanted
choice_by_word [] = unasked
choice_by_word (tool ∷ words) = run_by (tool_of tool) tool words

-- a tool by its own name: a word that stands alone may ask for the version or for help
abbrev pub run_by_name : Tool → List (List ℕ) → Wanted
run_by_name tool (word ∷ []) =
    if bytes_eq word (codes "--version") then version
    else (if bytes_eq word (codes "--help") then help_of tool else run_of Helpful tool (word ∷ []))
run_by_name tool words = run_of Helpful tool words

-- the tool by whose name the program was called, with all words; else the one that the first word names
abbrev pub choice_called : Option Tool → List (List ℕ) → Wanted
choice_called (Some tool) words = run_by_name tool words
choice_called None words = choice_by_word words

-- what stands after a slash of a path
abbrev pub part_after : List ℕ → Option ℕ → List ℕ
part_after path None = path
part_after path (Some slash) = drop (slash + 1) path

-- the last part of a path: what stands after its last slash
pub record IsLastPart (path part : List ℕ) : Type 0 where
  pub slash : Option ℕ
  pub last : IsLastByte (is_byte 47) path slash
  pub after : part ≡ part_after path slash

-- what is asked for by the path by which the program was called, and by words
pub record CallsFor (path : List ℕ) (words : List (List ℕ)) (asked : Wanted) : Type 0 where
  pub part : List ℕ
  pub last : IsLastPart path part
  pub by_part : asked ≡ choice_called (tool_of part) words

-- the tool that is asked for, if it is one
abbrev pub tool_in : Wanted → Option Tool
tool_in (serves voice words) = Some Tcpserver
tool_in simulates = Some Rulesim
tool_in unasked = Some Rulesim
tool_in (installs detail cdb tmp) = Some Tcprules
tool_in (reviews detail strict) = Some Tcprules
tool_in (checks detail cdb) = Some Tcprulescheck
tool_in adds = Some Addcr
tool_in deletes = Some Delcr
tool_in (passes recorded detail words) = Some (passing recorded)
tool_in version = None
tool_in help = None
tool_in (help_of tool) = Some tool
tool_in (usage_of detail tool) = Some tool
tool_in usage = None
