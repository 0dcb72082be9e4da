-- What `rulesim` prints for the log of a server: what the text that stands would have decided otherwise.
use Rattle.std.specs.Prelude.{ℕ, Bool, true, false, List, [], ◌++◌, flat_map, count_by, Option, Some, None, nat_lt, codes, decimal, if◌then◌else◌}
use Rattle.std.specs.Net.Text.{ipv4_text}
use Rattle.rule_lookup.specs.declared.instr.Verdict.{Verdict}
use Rattle.rule_lookup.specs.declared.instr.Verdict.TheVariants.{Allow, Deny}
use Rattle.rule_lookup.specs.Lines.{Line}
use Rattle.rule_lookup.specs.declared.decision.Decision.{Decision}
use Rattle.rule_lookup.specs.declared.decision.Found.{Found}
use Rattle.rule_lookup.specs.declared.decision.Found.TheVariants.{Address, Default, NoFile}
use Rattle.rule_lookup.specs.declared.decision.WhenMissing.TheVariants.{Deny as DenyMissing}
use Rattle.rule_lookup.specs.Decisions.{decision_of, without_file}
use Rattle.rule_lookup.specs.Peers.{Client}
use Rattle.script_tool.specs.declared.verdicts.Sums.{Sums}
use Rattle.script_words.specs.Scripts.{peer_at}
use Rattle.script_words.specs.LogLines.{Told, Reading, Other, Unread, Tells, reading}

-- the peer that is asked for: as `ask` has it of an address and a host, without a user
abbrev pub asked : Client → Client
asked peer = peer_at None peer.host peer.ip

-- what is decided now: by the text that stands, or as without a rules file if none stands
abbrev pub decided_now : Option (List ℕ) → Client → Decision
decided_now None peer = without_file DenyMissing
decided_now (Some text) peer = decision_of text peer

abbrev pub differs : Verdict → Verdict → Bool
differs Allow Allow = false
differs Allow Deny = true
differs Deny Allow = true
differs Deny Deny = false

-- whether another verdict would be given now
abbrev pub is_changed : Option (List ℕ) → Told → Bool
is_changed text told = differs told.verdict (decided_now text (asked told.peer)).verdict

abbrev pub verdict_name : Verdict → List ℕ
verdict_name Allow = codes "ok"
verdict_name Deny = codes "deny"

abbrev pub host_text : Option (List ℕ) → List ℕ
host_text None = []
host_text (Some name) = name

-- what decides it, as the first line of an answer tells it
abbrev pub found_text : Found → List ℕ
found_text (Address address) = codes "rule " ++ address ++ codes ":"
found_text Default = codes "default:"
found_text NoFile = codes "no file"

-- the line of a verdict that would be another now: whose it was, and what it is now
abbrev pub was_text : Told → List ℕ
was_text told =
    decimal told.serial ++ codes " " ++ ipv4_text told.peer.ip ++ codes " " ++ host_text told.peer.host ++ codes " was " ++ verdict_name told.verdict

abbrev pub now_text : Decision → List ℕ
now_text now = codes ", now " ++ verdict_name now.verdict ++ codes " " ++ found_text now.found ++ codes "\n"

abbrev pub change_line : Told → Decision → List ℕ
change_line told now = was_text told ++ now_text now

-- what a line of the log prints: only a verdict that would be another now prints a line
abbrev pub line_printed : Option (List ℕ) → Reading → List ℕ
line_printed text Other = []
line_printed text Unread = []
line_printed text (Tells told) =
    if is_changed text told then change_line told (decided_now text (asked told.peer)) else []

-- whether a line tells a verdict, whether this would be another now, and whether it is a verdict's that can't be read
abbrev pub is_told : Reading → Bool
is_told Other = false
is_told Unread = false
is_told (Tells told) = true

abbrev pub is_told_changed : Option (List ℕ) → Reading → Bool
is_told_changed text Other = false
is_told_changed text Unread = false
is_told_changed text (Tells told) = is_changed text told

abbrev pub is_unread : Reading → Bool
is_unread Other = false
is_unread Unread = true
is_unread (Tells told) = false

-- how many lines of a log tell a verdict, how many of these would be another now, and how many can't be read
abbrev pub count_lines : (Reading → Bool) → List Line → ℕ
count_lines test lines = count_by (λ (line : Line). test (reading line.bytes)) lines

abbrev pub sums_of : Option (List ℕ) → List Line → Sums
sums_of text lines =
    record { told = count_lines is_told lines; changed = count_lines (is_told_changed text) lines; unread = count_lines is_unread lines }

abbrev pub unread_line : ℕ → List ℕ
unread_line unread = if nat_lt 0 unread then codes "unread " ++ decimal unread ++ codes "\n" else []

abbrev pub sums_text : Sums → List ℕ
sums_text sums =
    codes "changed " ++ decimal sums.changed ++ codes " of " ++ decimal sums.told ++ codes "\n" ++ unread_line sums.unread

-- what a log prints under the text that stands, if one does
abbrev pub printed_by : Option (List ℕ) → Line → List ℕ
printed_by text line = line_printed text (reading line.bytes)

abbrev pub log_printed : Option (List ℕ) → List Line → List ℕ
log_printed text lines = flat_map (printed_by text) lines ++ sums_text (sums_of text lines)
