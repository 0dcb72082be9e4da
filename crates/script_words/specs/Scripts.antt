-- The lines of a script, as commands.
use Rattle.std.specs.Prelude.{ℕ, Bool, true, false, not, ◌&&◌, ◌==◌, nat_eq, List, [], ◌∷◌, map, length, drop, Option, Some, None, option_map, option_and_then, codes, bytes_eq, if◌then◌else◌}
use Rattle.std.specs.Char.{to_ascii_lowercase}
use Rattle.std.specs.List.{starts_with, slice_split}
use Rattle.std.specs.Str.{is_utf8}
use Rattle.dir_calls.specs.declared.choice.Choice.{Choice}
use Rattle.dir_calls.specs.declared.choice.Choice.TheVariants.{Kept, Empty, Junk}
use Rattle.rule_lookup.specs.Addresses.{ipv4_in}
use Rattle.rule_lookup.specs.Peers.{Client, is_peer_name}
use Rattle.dir_calls.specs.declared.phase.Phase.{Phase}
use Rattle.server_events.specs.declared.event.Event.{Event}
use Rattle.script_words.specs.Events.{event_in, limit_in, phase_in}

-- what a line asks for: nothing; a line more of the pending text, that this be installed, or that its installation begin, or go on to a
-- phase; a stop; a decision by the text that stands, a reader of it, or a decision by a reader's text; an empty list of events under a
-- limit and a limit per address, an event more, or what the list comes to; or that the lines after it be taken as a log
pub data Command : Type 0 where
  Skip : Command
  Add : List ℕ → Command
  Install : Command
  Begin : Command
  To : Phase → Command
  Stop : Choice → Command
  Ask : Client → Command
  Open : List ℕ → Command
  AskBy : List ℕ → Client → Command
  BeginEvents : ℕ → ℕ → Command
  AddEvent : Event → Command
  Replay : Command
  Verdicts : Command

-- the words of a line, one space between each two
abbrev pub words_of : List ℕ → List (List ℕ)
words_of line = slice_split (λ b. b == 32) line

-- what an option's word gives it
abbrev pub option_in : List ℕ → List ℕ → Option (List ℕ)
option_in mark word = if starts_with nat_eq word mark then Some (drop (length mark) word) else None

abbrev pub info_in : List ℕ → Option (List ℕ)
info_in word = option_in (codes "info=") word

abbrev pub host_in : List ℕ → Option (List ℕ)
host_in word = option_in (codes "host=") word

-- a name that may be left out
abbrev pub fits : Option (List ℕ) → Bool
fits None = true
fits (Some name) = is_peer_name name

-- a peer of a script has port 0
abbrev pub peer_at : Option (List ℕ) → Option (List ℕ) → List ℕ → Client
peer_at info host ip =
    record { ip = ip; port = 0; host = option_map (λ (name : List ℕ). map to_ascii_lowercase name) host; info = info }

-- the peer that an address and names make, if they make one
abbrev pub peer_of : List ℕ → Option (List ℕ) → Option (List ℕ) → Option Client
peer_of ip info host =
    if fits host && fits info then option_map (peer_at info host) (ipv4_in ip) else None

-- with one option, of the user or of the host
abbrev pub peer_with : List ℕ → Option (List ℕ) → Option (List ℕ) → Option Client
peer_with ip None None = None
peer_with ip (Some info) host = peer_of ip (Some info) None
peer_with ip None (Some host) = peer_of ip None (Some host)

-- with both, the user's first
abbrev pub peer_with_both : List ℕ → Option (List ℕ) → Option (List ℕ) → Option Client
peer_with_both ip (Some info) (Some host) = peer_of ip (Some info) (Some host)
peer_with_both ip (Some info) None = None
peer_with_both ip None host = None

-- the peer that the words after `ask` name: IP, then maybe `info=I`, then maybe `host=H`
abbrev pub peer_in : List (List ℕ) → Option Client
peer_in (ip ∷ []) = peer_of ip None None
peer_in (ip ∷ word ∷ []) = peer_with ip (info_in word) (host_in word)
peer_in (ip ∷ first ∷ second ∷ []) = peer_with_both ip (info_in first) (host_in second)
peer_in words = None

-- a choice, in its word
abbrev pub choice_in : List ℕ → Option Choice
choice_in word =
    if bytes_eq word (codes "kept") then Some Kept
    else (if bytes_eq word (codes "empty") then Some Empty
    else (if bytes_eq word (codes "junk") then Some Junk else None))

-- a reader's name, which is not empty
abbrev pub reader_in : List ℕ → Option (List ℕ)
reader_in [] = None
reader_in (b ∷ bs) = Some (b ∷ bs)

-- a reader's name, and the words of a peer
abbrev pub question_of : Option (List ℕ) → Option Client → Option Command
question_of None peer = None
question_of (Some name) peer = option_map (AskBy name) peer

abbrev pub question_in : List (List ℕ) → Option Command
question_in [] = None
question_in (name ∷ words) = question_of (reader_in name) (peer_in words)

-- a command that has no words more
abbrev pub bare_command : List ℕ → Option Command
bare_command name =
    if bytes_eq name (codes "install") then Some Install
    else (if bytes_eq name (codes "begin") then Some Begin
    else (if bytes_eq name (codes "replay") then Some Replay
    else (if bytes_eq name (codes "verdicts") then Some Verdicts else None)))

-- a list of events under these limits
abbrev pub limits_in : List ℕ → List ℕ → Option Command
limits_in limit per_address = option_and_then (λ n. option_map (BeginEvents n) (limit_in per_address)) (limit_in limit)

-- a command with one word; the limit per address is the limit if it is left out
abbrev pub command_with : List ℕ → List ℕ → Option Command
command_with name word =
    if bytes_eq name (codes "to") then option_map To (phase_in word)
    else (if bytes_eq name (codes "stop") then option_map Stop (choice_in word)
    else (if bytes_eq name (codes "reader") then option_map Open (reader_in word)
    else (if bytes_eq name (codes "events") then limits_in word word else None)))

-- the commands that name no peer and no event
abbrev pub other_command : List ℕ → List (List ℕ) → Option Command
other_command name [] = bare_command name
other_command name (word ∷ []) = command_with name word
other_command name (limit ∷ per_address ∷ []) =
    if bytes_eq name (codes "events") then limits_in limit per_address else None
other_command name words = None

-- the command with a name, and the words after that
abbrev pub command_named : List ℕ → List (List ℕ) → Option Command
command_named name words =
    if bytes_eq name (codes "ask") then option_map Ask (peer_in words)
    else (if bytes_eq name (codes "askby") then question_in words
    else (if bytes_eq name (codes "event") then option_map AddEvent (event_in words) else other_command name words))

-- the command that words are
abbrev pub command_in : List (List ℕ) → Option Command
command_in [] = None
command_in (name ∷ words) = command_named name words

-- whether a line has words: it is neither empty, nor a comment, nor a line of the pending text, and it is UTF-8
abbrev pub has_words : List ℕ → Bool
has_words [] = false
has_words (b ∷ bs) = not (b == 35) && not (b == 124) && is_utf8 (b ∷ bs)

-- the command of a line: none if the line is bad
abbrev pub command_of : List ℕ → Option Command
command_of [] = Some Skip
command_of (b ∷ bs) =
    if b == 35 then Some Skip
    else (if b == 124 then Some (Add bs) else (if is_utf8 (b ∷ bs) then command_in (words_of (b ∷ bs)) else None))
