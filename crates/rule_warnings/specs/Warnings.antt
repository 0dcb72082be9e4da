-- The warnings of an accepted rule text, and their lines.
use Rattle.std.specs.Prelude.{ℕ, ◌+◌, Bool, false, not, ◌&&◌, ◌||◌, ◌==◌, nat_lt, min, is_some, is_none, List, [], ◌∷◌, ◌++◌, map, length, get_or, codes, decimal, Option, Some, None, bytes_eq, fold, flat_map, if◌then◌else◌}
use Rattle.std.specs.List.{list_all, list_any, filter_map, position_or_len}
use Rattle.rule_lookup.specs.Lines.{Line, lines_of, trimmed, is_blank, has_byte}
use Rattle.rule_lookup.specs.Pairs.{is_ignored, address_in}
use Rattle.rule_lookup.specs.Spread.{spread}
use Rattle.rule_warnings.specs.declared.warning.WarningKind.{WarningKind}
use Rattle.rule_warnings.specs.declared.warning.WarningKind.TheVariants.{NoClient, UnknownUser, DecidedBy, BlankName, NobodyElse, Ignored}
use Rattle.rule_warnings.specs.declared.warning.Warning.{Warning}
use Rattle.rule_warnings.specs.Clients.{is_form, asks_user}
use Rattle.rule_warnings.specs.Names.{has_blank_name, names_host}

-- the addresses of a trimmed line: none where it is ignored
abbrev pub addresses_in : List ℕ → List (List ℕ)
addresses_in line = if is_ignored line then [] else spread (address_in line)

-- the number of the first line that has the address, where the first of the lines has the number n
abbrev pub first_from : ℕ → List (List ℕ) → List ℕ → Option ℕ
first_from n [] address = None
first_from n (line ∷ lines) address = if list_any (bytes_eq address) (addresses_in line) then Some n else first_from (n + 1) lines address

-- the same among all lines of a text up to some line
abbrev pub first_in : List (List ℕ) → List ℕ → Option ℕ
first_in lines address = first_from 1 lines address

-- the least of some numbers
abbrev pub least : List ℕ → Option ℕ
least [] = None
least (n ∷ ns) = Some (fold min n ns)

-- the first line that decides one of the addresses, where each of them was decided by a line
abbrev pub decided_by : (List ℕ → Option ℕ) → List (List ℕ) → Option ℕ
decided_by first addresses = if list_all (λ address. is_some (first address)) addresses then least (filter_map first addresses) else None

-- a kind of warning, where it holds
abbrev pub when : Bool → WarningKind → List WarningKind
when holds kind = if holds then kind ∷ [] else []

-- that a line decides before, where there is one
abbrev pub when_decided : Option ℕ → List WarningKind
when_decided None = []
when_decided (Some line) = DecidedBy line ∷ []

-- the line is a rule, and none of its addresses is a form of some peer
abbrev pub has_no_client : List ℕ → Bool
has_no_client line = not (is_ignored line) && not (list_any is_form (addresses_in line))

-- the line is a rule for a user
abbrev pub has_user : List ℕ → Bool
has_user line = not (is_ignored line) && asks_user (address_in line)

-- the line is the last one, and no line has the empty address
abbrev pub leaves_others : List (List ℕ) → List ℕ → List (List ℕ) → Bool
leaves_others earlier line later = length later == 0 && is_none (first_in (earlier ++ line ∷ []) [])

-- no rule and no comment: the line isn't empty, doesn't begin with `#`, and has no colon
abbrev pub is_lost : List ℕ → Bool
is_lost [] = false
is_lost (b ∷ bs) = not (b == 35) && not (has_byte 58 (b ∷ bs))

-- blanks, at least one, and then a `#`
abbrev pub is_moved_comment : List ℕ → Bool
is_moved_comment line =
    let blanks = position_or_len (λ b. not (is_blank b)) line in
    nat_lt 0 blanks && get_or line blanks 0 == 35

-- a line that is ignored, or was meant to be
abbrev pub looks_ignored : List ℕ → Bool
looks_ignored line = is_lost line || is_moved_comment line

-- the kinds of warning of a trimmed line, by the lines in which addresses first stood before it, and whether it leaves others without a rule
abbrev pub kinds_by : (List ℕ → Option ℕ) → List ℕ → Bool → List WarningKind
kinds_by first line leaves =
    when (has_no_client line) NoClient ++ when (has_user line) UnknownUser ++ when_decided (decided_by first (addresses_in line))
    ++ when (has_blank_name line) BlankName ++ when leaves NobodyElse ++ when (looks_ignored line) Ignored

-- the same of a line between the earlier and the later ones
abbrev pub kinds_between : List (List ℕ) → List ℕ → List (List ℕ) → List WarningKind
kinds_between earlier line later = kinds_by (first_in earlier) line (leaves_others earlier line later)

-- warnings of one line
abbrev pub warnings_at : ℕ → List WarningKind → List Warning
warnings_at n kinds = map (λ kind. record { line = n; kind = kind }) kinds

-- the warnings of lines behind earlier ones
abbrev pub warnings_behind : List (List ℕ) → List (List ℕ) → List Warning
warnings_behind earlier [] = []
warnings_behind earlier (line ∷ later) =
    warnings_at (length earlier + 1) (kinds_between earlier line later) ++ warnings_behind (earlier ++ line ∷ []) later

-- the lines of a text, without the blanks at their ends
abbrev pub trimmed_lines : List ℕ → List (List ℕ)
trimmed_lines text = map (λ (line : Line). trimmed line.bytes) (lines_of text)

-- the warnings of a text: where it has no lines it has no rule for anybody, and its last line has the number 0
abbrev pub warnings_of : List ℕ → List Warning
warnings_of [] = warnings_at 0 (NobodyElse ∷ [])
warnings_of (b ∷ bs) = warnings_behind [] (trimmed_lines (b ∷ bs))

-- what is told of a kind
abbrev pub kind_text : WarningKind → List ℕ
kind_text NoClient = codes "no client has this address"
kind_text UnknownUser = codes "a user is never known"
kind_text (DecidedBy line) = codes "line " ++ decimal line ++ codes " decides first"
kind_text BlankName = codes "a name with a blank"
kind_text NobodyElse = codes "no rule for everyone else"
kind_text Ignored = codes "ignored"

-- the line of a warning
abbrev pub warning_line : Warning → List ℕ
warning_line warning = codes "tcprules: line " ++ decimal warning.line ++ codes ": " ++ kind_text warning.kind ++ 10 ∷ []

-- the lines of the warnings of a text
abbrev pub lines_report : List ℕ → List ℕ
lines_report text = flat_map warning_line (warnings_of text)

-- what is told of rules by name, which is no warning of a line
abbrev pub table_report : Bool → List ℕ
table_report named = if named then codes "tcprules: rules by name need a host table\n" else []

-- what is told of a text: its warnings, and at the end whether a rule is by name
abbrev pub report_of : List ℕ → List ℕ
report_of [] = lines_report []
report_of (b ∷ bs) = lines_report (b ∷ bs) ++ table_report (list_any names_host (trimmed_lines (b ∷ bs)))
