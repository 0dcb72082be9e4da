-- What a line that was read tells.
use Rattle.std.specs.Prelude.{List, ℕ, Option}
use Rattle.std.specs.Borrow.{Bor}
use Rattle.rule_lookup.specs.Peers.{Client, given}
use Rattle.child_jobs.specs.Ends.{LocalEnd}
use Rattle.script_words.specs.LogLines.{Told, Reading, Other, Unread, Tells}
use Rattle.script_words.specs.declared.log_line.End.{End}
use Rattle.script_words.specs.declared.log_line.LogLine.{LogLine}
use Rattle.script_words.specs.declared.log_line.LogLine.TheVariants as line
use Rattle.script_words.specs.declared.log_line.VerdictLine.{VerdictLine}

abbrev pub end_of : End → LocalEnd
end_of end = record { ip = end.ip; port = end.port; host = given end.host }

abbrev pub client_of : End → Option (Bor (List ℕ)) → Client
client_of end info = record { ip = end.ip; port = end.port; host = given end.host; info = given info }

abbrev pub told_of : VerdictLine → Told
told_of read =
    record { verdict = read.verdict; serial = read.serial; local = end_of read.local; peer = client_of read.peer read.info }

abbrev pub meaning : LogLine → Reading
meaning line.Other = Other
meaning line.Unread = Unread
meaning (line.Verdict read) = Tells (told_of read)
