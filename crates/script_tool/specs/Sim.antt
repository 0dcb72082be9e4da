-- What `rulesim` prints for a script.
use Rattle.std.specs.Prelude.{◌≡◌, ℕ, ◌+◌, Bool, true, false, nat_lt, List, [], ◌∷◌, ◌++◌, Option, Some, None, Result, Ok, Err, option_map, option_and_then, is_some, codes, bytes_eq, if◌then◌else◌}
use Rattle.std.specs.Io.KnownBytes.{Appends}
use Rattle.cdb_files.specs.Image.{finished_length}
use Rattle.cdb_files.specs.Compiled.{stored}
use Rattle.rule_lines.specs.declared.fault.LineFault.{LineFault}
use Rattle.rule_lines.specs.Faults.{fault_of}
use Rattle.rule_lookup.specs.Lines.{Line, lines_of}
use Rattle.rule_lookup.specs.Pairs.{pairs_of}
use Rattle.rule_lookup.specs.Decisions.{decision_of}
use Rattle.rule_lookup.specs.Peers.{Client}
use Rattle.dir_calls.specs.declared.phase.Phase.{Phase}
use Rattle.dir_calls.specs.declared.phase.Phase.TheVariants.{Done}
use Rattle.server_events.specs.declared.event.Event.{Event}
use Rattle.server_events.specs.Reports.{first_illegal, report_of}
use Rattle.server_events.specs.ServerState.{start as server_at_start}
use Rattle.rules_tools.specs.Reviews.{profile}
use Rattle.script_words.specs.declared.fault.SimFault.{SimFault}
use Rattle.script_words.specs.declared.fault.SimFault.TheVariants.{BadCommand, ReadFault, WriteFault, OutOfMemory}
use Rattle.rule_lookup.specs.Answers.{answer_lines}
use Rattle.script_tool.specs.Logs.{log_printed}
use Rattle.script_tool.specs.Replies.{fault_text, illegal_line, reached_line, report_line}
use Rattle.script_words.specs.Events.{History, with_event}
use Rattle.script_words.specs.Scripts.{Command, Skip, Add, Install, Begin, To, Stop, Ask, Open, AskBy, BeginEvents, AddEvent, Replay, Verdicts, command_of}
use Rattle.script_tool.specs.Texts.{Texts, no_texts, at_phases, later_of, stopped}

-- why a text is not installed: it has a fault, or its compiled file would be too large
pub data Refusal : Type 0 where
  faulty : LineFault → Refusal
  too_large : Refusal

abbrev pub refusal_by : Option LineFault → List ℕ → Option Refusal
refusal_by (Some fault) text = Some (faulty fault)
refusal_by None text =
    if nat_lt profile.file (finished_length (stored (pairs_of text))) then Some too_large else None

abbrev pub refusal_of : List ℕ → Option Refusal
refusal_of text = refusal_by (fault_of profile text) text

-- a text whose installation was begun, and the phase that it reached, if a step was made
pub record BegunInstall : Type 0 where
  pub text : List ℕ
  pub reached : Option Phase

-- the text that is being written; the texts that stand and that stops leave; the installation that was begun; the text of each reader; and
-- the list of events that was begun
pub record State : Type 0 where
  pub pending : List ℕ
  pub texts : Texts
  pub begun : Option BegunInstall
  pub readers : List ℕ → Option (List ℕ)
  pub history : Option History

abbrev pub no_readers : List ℕ → Option (List ℕ)
no_readers name = None

-- at first nothing is written, nothing stands or is begun, and there is no reader and no list of events
abbrev pub start : State
start = record { pending = []; texts = no_texts; begun = None; readers = no_readers; history = None }

-- an event, and a question for the report, need a list that was begun
abbrev pub is_in_order : State → Command → Bool
is_in_order state (AddEvent event) = is_some state.history
is_in_order state Replay = is_some state.history
is_in_order state command = true

-- the command of a line that stands here; none if the line is bad
abbrev pub command_at : State → List ℕ → Option Command
command_at state line =
    option_and_then (λ command. if is_in_order state command then Some command else None) (command_of line)

-- an installation goes through all phases
abbrev pub installed_texts : Option Refusal → List ℕ → Texts → Texts
installed_texts None text t = at_phases text None Done t
installed_texts (Some refusal) text t = t

abbrev pub begun_by : Option Refusal → List ℕ → Option BegunInstall
begun_by None text = Some (record { text = text; reached = None })
begun_by (Some refusal) text = None

-- the texts, and the installation, after it went on to a phase
abbrev pub texts_to : Phase → Option BegunInstall → Texts → Texts
texts_to target None t = t
texts_to target (Some b) t = at_phases b.text b.reached target t

abbrev pub begun_to : Phase → BegunInstall → BegunInstall
begun_to target b = record { text = b.text; reached = Some (later_of b.reached target) }

-- a reader opened on the text that stands, if one does, in place of the one with its name
abbrev pub with_reader : List ℕ → Option (List ℕ) → (List ℕ → Option (List ℕ)) → List ℕ → Option (List ℕ)
with_reader name None readers = readers
with_reader name (Some text) readers = λ other. if bytes_eq other name then Some text else readers other

-- the state that a command leaves; an installation empties the pending text, accepted or not, and takes the place of the one that was
-- begun
abbrev pub after : State → Command → State
after state Skip = state
after state (Add text) = record state { pending = state.pending ++ text ++ 10 ∷ [] }
after state Install =
    record state { pending = []; texts = installed_texts (refusal_of state.pending) state.pending state.texts; begun = None }
after state Begin =
    record state { pending = []; begun = begun_by (refusal_of state.pending) state.pending }
after state (To target) =
    record state { texts = texts_to target state.begun state.texts; begun = option_map (begun_to target) state.begun }
after state (Stop choice) =
    record state { texts = stopped choice state.texts; begun = None; readers = no_readers }
after state (Ask peer) = state
after state (Open name) = record state { readers = with_reader name state.texts.standing state.readers }
after state (AskBy name peer) = state
after state (BeginEvents limit per_address) =
    record state { history = Some (record { limit = limit; per_address = per_address; events = [] }) }
after state (AddEvent event) = record state { history = option_map (with_event event) state.history }
after state Replay = state
after state Verdicts = state

-- what becomes of a text that is to be installed, with the words for one that is not refused
abbrev pub told : List ℕ → Option Refusal → List ℕ
told words None = words
told words (Some (faulty fault)) = fault_text fault.line fault.kind ++ codes "\n"
told words (Some too_large) = codes "compiled file too large\n"

-- what a question prints, by the text that stands or a reader's, with the words for none
abbrev pub answered : List ℕ → Option (List ℕ) → Client → List ℕ
answered words None peer = words
answered words (Some text) peer = answer_lines (decision_of text peer)

abbrev pub opened : Option (List ℕ) → List ℕ
opened None = codes "no file\n"
opened (Some text) = codes "opened\n"

-- what a list of events comes to: the first that may not happen there, or the report of all
abbrev pub outcome : Option ℕ → List Event → List ℕ
outcome None events = report_line (report_of events)
outcome (Some position) events = illegal_line position

abbrev pub replayed : Option History → List ℕ
replayed None = []
replayed (Some history) =
    outcome (first_illegal (server_at_start history.limit history.per_address) history.events) history.events

-- what a command prints
abbrev pub printed : State → Command → List ℕ
printed state Skip = []
printed state (Add text) = []
printed state Install = told (codes "installed\n") (refusal_of state.pending)
printed state Begin = told (codes "begun\n") (refusal_of state.pending)
printed state (To target) = reached_line (option_map (λ b. later_of b.reached target) state.begun)
printed state (Stop choice) = codes "stopped\n"
printed state (Ask peer) = answered (codes "no file\n") state.texts.standing peer
printed state (Open name) = opened state.texts.standing
printed state (AskBy name peer) = answered (codes "no reader\n") (state.readers name) peer
printed state (BeginEvents limit per_address) = []
printed state (AddEvent event) = []
printed state Replay = replayed state.history
printed state Verdicts = []

-- what lines print, and the number of the first bad one
pub record Run : Type 0 where
  pub output : List ℕ
  pub bad : Option ℕ

-- a run with this printed in front of it
abbrev pub printing : List ℕ → Run → Run
printing text run = record run { output = text ++ run.output }

-- whether a command takes the lines after it as a log
abbrev pub takes_log : Command → Bool
takes_log Verdicts = true
takes_log command = false

-- the run of lines that are a log, under the text that stands
abbrev pub run_log : State → List Line → Run
run_log state lines = record { output = log_printed state.texts.standing lines; bad = None }

-- the run of a line and of those after it; it ends at a bad line, and a command may take those after it as a log
abbrev pub run_line : ℕ → Option Command → State → List Line → (State → Run) → Run
run_line n None state lines later = record { output = []; bad = Some n }
run_line n (Some command) state lines later =
    if takes_log command then run_log state lines else printing (printed state command) (later (after state command))

-- the run of lines, the first of which is line n
abbrev pub run_from : ℕ → List Line → State → Run
run_from n [] state = record { output = []; bad = None }
run_from n (line ∷ lines) state = run_line n (command_at state line.bytes) state lines (run_from (n + 1) lines)

-- the run of a script
abbrev pub sim : List ℕ → Run
sim script = run_from 1 (lines_of script) start

-- what was written from one moment to another is a front of what a run prints
pub record PrintsFront (before now : Option (List ℕ)) (run : Run) : Type 0 where
  pub front : List ℕ
  pub rest : List ℕ
  pub written : Appends before now front
  pub all : run.output ≡ front ++ rest

-- What was written from one moment to another is what a run prints, and it ended as the run does. At a fault of the
-- reader, or for want of memory, a front of it was written. A fault of the writer says nothing of what was written.
abbrev pub Prints : Option (List ℕ) → Option (List ℕ) → Run → Result (Unit {0}) SimFault → Type 0
Prints before now run (Ok done) = Appends before now run.output × (run.bad ≡ None)
Prints before now run (Err (BadCommand n)) = Appends before now run.output × (run.bad ≡ Some n)
Prints before now run (Err ReadFault) = PrintsFront before now run
Prints before now run (Err WriteFault) = Unit {0}
Prints before now run (Err OutOfMemory) = PrintsFront before now run
