-- The lines of the server's log, as bytes, and those of each event at each level.
use Rattle.std.specs.Prelude.{ℕ, List, [], ◌++◌, Option, Some, None, codes, decimal, ◌∷◌}
use Rattle.std.specs.Net.Text.{ipv4_text}
use Rattle.byte_text.specs.Fields.{field_text}
use Rattle.rule_lookup.specs.declared.instr.Verdict.{Verdict}
use Rattle.rule_lookup.specs.declared.instr.Verdict.TheVariants.{Allow, Deny}
use Rattle.rule_lookup.specs.Peers.{Client}
use Rattle.child_jobs.specs.declared.outcome.DropCause.{DropCause}
use Rattle.child_jobs.specs.declared.outcome.DropCause.TheVariants.{Denied, Banner, Directory, ReadFault, Damaged, Memory}
use Rattle.child_jobs.specs.declared.outcome.StartFault.{StartFault}
use Rattle.child_jobs.specs.declared.outcome.StartFault.TheVariants.{NotFound, Refused, Other, OutOfMemory}
use Rattle.child_jobs.specs.declared.outcome.Status.{Status}
use Rattle.child_jobs.specs.declared.outcome.Status.TheVariants.{Code, Signal}
use Rattle.child_jobs.specs.Ends.{LocalEnd}
use Rattle.byte_text.specs.Causes.{cause_text as os_cause_text}
use Rattle.fault_hints.specs.declared.voice.Detail.{Detail}
use Rattle.fault_hints.specs.declared.voice.Detail.TheVariants.{Line, Cause, Hint}
use Rattle.fault_hints.specs.declared.voice.Voice.{Voice}
use Rattle.fault_hints.specs.declared.voice.Voice.TheVariants.{Plain, Helpful}
use Rattle.fault_hints.specs.Voices.{detail_of}
use Rattle.server_words.specs.declared.level.Level.{Level}
use Rattle.server_words.specs.declared.level.Level.TheVariants.{Quiet, Errors, All}
use Rattle.server_yard.specs.declared.yard.AdmitFault.{AdmitFault}
use Rattle.server_yard.specs.declared.yard.AdmitFault.TheVariants as refused
use Rattle.server_log.specs.Causes.{CauseText}
use Rattle.server_log.specs.declared.lines.Told.{Told}

-- a field that may be absent
abbrev pub field : Option (List ℕ) → List ℕ
field None = []
field (Some bytes) = field_text bytes

abbrev pub status_line : ℕ → ℕ → List ℕ
status_line live limit = codes "tcpserver: status: " ++ decimal live ++ codes "/" ++ decimal limit ++ codes "\n"

abbrev pub pid_line : ℕ → List ℕ → List ℕ
pid_line serial ip = codes "tcpserver: pid " ++ decimal serial ++ codes " from " ++ ipv4_text ip ++ codes "\n"

abbrev pub verdict_word : Verdict → List ℕ
verdict_word Allow = codes "ok "
verdict_word Deny = codes "deny "

-- an end of a connection: the name of its host, its address, and what stands before its port
abbrev pub local_text : LocalEnd → List ℕ
local_text local = field local.host ++ codes ":" ++ ipv4_text local.ip ++ codes ":" ++ decimal local.port

abbrev pub remote_text : Client → List ℕ
remote_text peer = field peer.host ++ codes ":" ++ ipv4_text peer.ip ++ codes ":" ++ field peer.info ++ codes ":" ++ decimal peer.port

abbrev pub verdict_text : Verdict → ℕ → LocalEnd → Client → List ℕ
verdict_text verdict serial local peer =
    codes "tcpserver: " ++ verdict_word verdict ++ decimal serial ++ codes " " ++ local_text local ++ codes " " ++ remote_text peer ++ codes "\n"

abbrev pub status_text : Status → List ℕ
status_text (Code code) = decimal code
status_text Signal = codes "signal"

abbrev pub end_text : ℕ → Status → List ℕ
end_text serial status = codes "tcpserver: end " ++ decimal serial ++ codes " status " ++ status_text status ++ codes "\n"

-- which signal ended a child
abbrev pub signal_text : ℕ → ℕ → List ℕ
signal_text serial signal = codes "tcpserver: cause: " ++ decimal serial ++ codes ": signal " ++ decimal signal ++ codes "\n"

-- which process runs a connection's program
abbrev pub runs_text : ℕ → ℕ → List ℕ
runs_text serial process = codes "tcpserver: runs " ++ decimal serial ++ codes " process " ++ decimal process ++ codes "\n"

-- where the server listens
abbrev pub listening_text : List ℕ → ℕ → List ℕ
listening_text ip port = codes "tcpserver: listening on " ++ ipv4_text ip ++ codes ":" ++ decimal port ++ codes "\n"

abbrev pub retired_text : ℕ → List ℕ
retired_text serial = codes "tcpserver: retired " ++ decimal serial ++ codes "\n"

-- the words for a cause; a denied connection has no words
abbrev pub cause_text : DropCause → Option (List ℕ)
cause_text Denied = None
cause_text Banner = Some (codes "banner fault")
cause_text Directory = Some (codes "directory fault")
cause_text ReadFault = Some (codes "rules read fault")
cause_text Damaged = Some (codes "rules damaged")
cause_text Memory = Some (codes "out of memory")

abbrev pub drop_text : ℕ → List ℕ → List ℕ
drop_text serial words = codes "tcpserver: drop " ++ decimal serial ++ codes " " ++ words ++ codes "\n"

-- the words for a fault of a start
abbrev pub fault_text : StartFault → List ℕ
fault_text NotFound = codes "not found"
fault_text Refused = codes "refused"
fault_text Other = codes "failed"
fault_text OutOfMemory = codes "out of memory"

abbrev pub start_text : ℕ → StartFault → List ℕ
start_text serial fault = codes "tcpserver: start " ++ decimal serial ++ codes " " ++ fault_text fault ++ codes "\n"

abbrev pub full_text : List ℕ → List ℕ
full_text ip = codes "tcpserver: drop " ++ ipv4_text ip ++ codes " address full" ++ codes "\n"

-- ---- which lines a level has

-- a line that tells how connections go: under `All` alone
abbrev pub progress : Level → List ℕ → List (List ℕ)
progress Quiet line = []
progress Errors line = []
progress All line = line ∷ []

-- a line that tells a fault: under `All` and `Errors`
abbrev pub error : Level → List ℕ → List (List ℕ)
error Quiet line = []
error Errors line = line ∷ []
error All line = line ∷ []

abbrev pub status_lines : Level → (limit live : ℕ) → List (List ℕ)
status_lines level limit live = progress level (status_line live limit)

-- a line that tells a person how connections go: under `All` alone
abbrev pub person : Voice → Level → List ℕ → List (List ℕ)
person Plain level line = []
person Helpful level line = progress level line

-- the line of a connection that was given up, if its cause has words
abbrev pub drop_lines : Level → ℕ → Option (List ℕ) → List (List ℕ)
drop_lines level serial None = []
drop_lines level serial (Some words) = error level (drop_text serial words)

-- a line that tells a cause, where causes are told
abbrev pub with_cause : Detail → List ℕ → List (List ℕ)
with_cause Line line = []
with_cause Cause line = line ∷ []
with_cause Hint line = line ∷ []

-- the same of a cause that is told to a person alone
abbrev pub with_hint : Detail → List ℕ → List (List ℕ)
with_hint Line line = []
with_hint Cause line = []
with_hint Hint line = line ∷ []

-- the line of a cause, if there is one, where it is told
abbrev pub cause_line : CauseText → List ℕ
cause_line cause = os_cause_text (codes "tcpserver") cause.what cause.why

abbrev pub of_cause : (List ℕ → List (List ℕ)) → Option CauseText → List (List ℕ)
of_cause told None = []
of_cause told (Some cause) = told (cause_line cause)

abbrev pub cause_lines : Detail → Option CauseText → List (List ℕ)
cause_lines detail cause = of_cause (λ line. with_cause detail line) cause

abbrev pub hint_lines : Detail → Option CauseText → List (List ℕ)
hint_lines detail cause = of_cause (λ line. with_hint detail line) cause

-- which signal ended a child, and which process runs a program, where that is known: for a person
abbrev pub signal_lines : Level → Voice → ℕ → Option ℕ → List (List ℕ)
signal_lines level voice serial None = []
signal_lines level voice serial (Some signal) = person voice level (signal_text serial signal)

abbrev pub runs_lines : Level → Voice → ℕ → Option ℕ → List (List ℕ)
runs_lines level voice serial None = []
runs_lines level voice serial (Some process) = person voice level (runs_text serial process)

-- The lines of the end of a connection. A cause stands right behind its fault.
abbrev pub end_lines : Level → Voice → Told → List (List ℕ)
end_lines level voice (Told.StartFailed serial fault cause) =
    error level (start_text serial fault) ++ cause_lines (detail_of voice level) cause
end_lines level voice (Told.Ended serial status signal) =
    progress level (end_text serial status) ++ signal_lines level voice serial signal
end_lines level voice (Told.Retired serial) = error level (retired_text serial)
end_lines level voice (Told.Dropped serial cause file why) =
    drop_lines level serial (cause_text cause) ++ hint_lines (detail_of voice level) file ++ cause_lines (detail_of voice level) why
end_lines level voice told = []

-- The lines of each event. The status stands in front of the line of an admission, and behind the lines of an end. A
-- person is told at each level but the quiet one why there is no rules file, though the verdict has its line under
-- `All` alone.
abbrev pub event_lines : Level → Voice → (limit live : ℕ) → Told → List (List ℕ)
event_lines level voice limit live (Told.Admitted serial ip) = status_lines level limit live ++ progress level (pid_line serial ip)
event_lines level voice limit live (Told.Decided serial verdict local peer file) =
    progress level (verdict_text verdict serial local.now peer.now) ++ hint_lines (detail_of voice level) file
event_lines level voice limit live (Told.Started serial process) = runs_lines level voice serial process
event_lines level voice limit live told = end_lines level voice told ++ status_lines level limit live

-- what else a log tells: an address that is full
abbrev pub full_lines : Level → List ℕ → List (List ℕ)
full_lines level ip = error level (full_text ip)

abbrev pub memory_text : List ℕ
memory_text = codes "tcpserver: out of memory\n"

abbrev pub memory_lines : Level → List (List ℕ)
memory_lines level = error level memory_text

-- why a client at an address was not let in: that no place or no number is left has no line
abbrev pub refusal_lines : Level → (ip : List ℕ) → AdmitFault → List (List ℕ)
refusal_lines level ip refused.FullForAddress = full_lines level ip
refusal_lines level ip refused.OutOfMemory = memory_lines level
refusal_lines level ip fault = []

-- the warning that rules by name decide nobody: under `All` alone
abbrev pub no_names_text : List ℕ
no_names_text = codes "tcpserver: rules by name, and no names\n"

abbrev pub no_names_lines : Level → List (List ℕ)
no_names_lines level = progress level no_names_text
