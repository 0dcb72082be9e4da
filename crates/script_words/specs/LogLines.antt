-- The lines that tell verdicts, read back from a log.
use Rattle.std.specs.Prelude.{◌≡◌, ◌≢◌, ℕ, ◌<◌, ◌≤◌, ◌^◌, Bool, true, not, ◌||◌, ◌&&◌, ◌==◌, nat_eq, nat_lt, List, [], ◌∷◌, ◌++◌, length, drop, Option, Some, None, option_map, option_and_then, bytes_eq, codes, decimal, if◌then◌else◌}
use Rattle.std.specs.List.{list_all, slice_split, starts_with}
use Rattle.std.specs.Net.Grammar.{IsDotted}
use Rattle.std.specs.Net.Text.{ipv4_text}
use Rattle.rule_lookup.specs.declared.instr.Verdict.{Verdict}
use Rattle.rule_lookup.specs.declared.instr.Verdict.TheVariants.{Allow, Deny}
use Rattle.rule_lookup.specs.Addresses.{ipv4_in}
use Rattle.rule_lookup.specs.Peers.{Client, fits}
use Rattle.byte_text.specs.Fields.{is_marked}
use Rattle.server_log.specs.Lines.{verdict_text, verdict_word}
use Rattle.child_jobs.specs.Ends.{LocalEnd}
use Rattle.server_words.specs.Numbers.{number_in}

-- what the line of a verdict tells
pub record Told : Type 0 where
  pub verdict : Verdict
  pub serial : ℕ
  pub local : LocalEnd
  pub peer : Client

-- a line of a log: it tells no verdict, tells one that can't be read, or tells this one
pub data Reading : Type 0 where
  Other : Reading
  Unread : Reading
  Tells : Told → Reading

-- a byte of a field that stands for itself: it would not have been marked, and is not the mark
abbrev pub is_plain : ℕ → Bool
is_plain b = not (is_marked b || b == 63)

-- a field is whole: it was not cut, and no byte of it is a mark
abbrev pub is_whole : List ℕ → Bool
is_whole field = nat_lt (length field) 100 && list_all is_plain field

-- the name in a field, which is empty if there is none
abbrev pub name_in : List ℕ → Option (List ℕ)
name_in [] = None
name_in (b ∷ bs) = Some (b ∷ bs)

abbrev pub if_written : ℕ → List ℕ → Option ℕ
if_written n word = if bytes_eq (decimal n) word then Some n else None

-- the number up to a greatest that a server writes so
abbrev pub number_written : ℕ → List ℕ → Option ℕ
number_written greatest word = option_and_then (λ n. if_written n word) (number_in word 0 greatest)

-- an end of a connection in its three fields
abbrev pub end_at : List ℕ → List ℕ → ℕ → LocalEnd
end_at host ip port = record { ip = ip; port = port; host = name_in host }

abbrev pub end_in : List ℕ → List ℕ → List ℕ → Option LocalEnd
end_in host ip port =
    if is_whole host then option_and_then (λ address. option_map (end_at host address) (number_written 65535 port)) (ipv4_in ip) else None

-- the server's end, in its fields
abbrev pub local_in : List (List ℕ) → Option LocalEnd
local_in (host ∷ ip ∷ port ∷ []) = end_in host ip port
local_in fields = None

-- the other end, which has a field more: the name of the user
abbrev pub peer_with : List ℕ → LocalEnd → Client
peer_with info end = record { ip = end.ip; port = end.port; host = end.host; info = name_in info }

abbrev pub peer_in : List (List ℕ) → Option Client
peer_in (host ∷ ip ∷ info ∷ port ∷ []) =
    if is_whole info then option_map (peer_with info) (end_in host ip port) else None
peer_in fields = None

-- the words of a text, and the fields of a word
abbrev pub words_of : List ℕ → List (List ℕ)
words_of text = slice_split (λ b. b == 32) text

abbrev pub fields_of : List ℕ → List (List ℕ)
fields_of word = slice_split (λ b. b == 58) word

-- what the words behind `ok` or `deny` tell: the serial number, and the two ends
abbrev pub told_with : Verdict → ℕ → LocalEnd → Client → Told
told_with verdict serial local peer = record { verdict = verdict; serial = serial; local = local; peer = peer }

abbrev pub told_in : Verdict → List (List ℕ) → Option Told
told_in verdict (serial ∷ local ∷ peer ∷ []) =
    option_and_then (λ n. option_and_then (λ l. option_map (told_with verdict n l) (peer_in (fields_of peer))) (local_in (fields_of local)))
    (number_written 18446744073709551615 serial)
told_in verdict words = None

-- what stands in front of these words
abbrev pub front_of : Verdict → List ℕ
front_of verdict = codes "tcpserver: " ++ verdict_word verdict

-- what stands behind it, if a line begins with it
abbrev pub behind : Verdict → List ℕ → Option (List ℕ)
behind verdict line =
    if starts_with nat_eq line (front_of verdict) then Some (drop (length (front_of verdict)) line) else None

abbrev pub tells_or_not : Option Told → Reading
tells_or_not None = Unread
tells_or_not (Some told) = Tells told

-- a line with what stands behind `ok`, or else behind `deny`
abbrev pub reading_by : Option (List ℕ) → Option (List ℕ) → Reading
reading_by (Some allowed) denied = tells_or_not (told_in Allow (words_of allowed))
reading_by None (Some denied) = tells_or_not (told_in Deny (words_of denied))
reading_by None None = Other

-- a line, which has no line feed
abbrev pub reading : List ℕ → Reading
reading line = reading_by (behind Allow line) (behind Deny line)

-- the names of the other end are ones that a peer may have
abbrev pub TellsPeer : Reading → Type 0
TellsPeer Other = Unit {0}
TellsPeer Unread = Unit {0}
TellsPeer (Tells told) = (fits told.peer.host ≡ true) × (fits told.peer.info ≡ true)

-- a name that its field tells whole
abbrev pub IsToldWhole : Option (List ℕ) → Type 0
IsToldWhole None = Unit {0}
IsToldWhole (Some name) = (name ≢ []) × (is_whole name ≡ true)

-- an address and a port
pub record IsEnd (ip : List ℕ) (port : ℕ) : Type 0 where
  pub address : IsDotted (ipv4_text ip) ip
  pub port_fits : port ≤ 65535

-- a line is the one that tells a verdict, and no field of it was cut or has a mark
pub record IsLineOf (told : Told) (line : List ℕ) : Type 0 where
  pub serial_fits : told.serial < 2 ^ 64
  pub local_end : IsEnd told.local.ip told.local.port
  pub peer_end : IsEnd told.peer.ip told.peer.port
  pub local_host : IsToldWhole told.local.host
  pub host : IsToldWhole told.peer.host
  pub info : IsToldWhole told.peer.info
  pub text : line ++ codes "\n" ≡ verdict_text told.verdict told.serial told.local told.peer
