-- What a log prints, evaluated on worked cases.
use Rattle.std.proofs.Common.{◌≡◌, [], Some, None, refl}
use Rattle.std.specs.Prelude.{codes}
use Rattle.std.specs.Fmt.{digits}
use Rattle.std.specs.Str.{is_utf8, chars}
use lib.Utf8.{encode}
use Rattle.rule_lookup.specs.Lines.{lines_of}
use Rattle.rule_lookup.specs.Addresses.{ipv4_in}
use Rattle.script_tool.specs.Logs.{log_printed}
use Rattle.script_tool.specs.Sim.{sim}

no_lines : log_printed None (lines_of []) ≡ codes "changed 0 of 0\n"
unfolding digits
no_lines = refl

no_file : log_printed None (lines_of (codes "tcpserver: ok 7 here:10.0.0.1:25 :192.0.2.66::5012\n")) ≡ codes "7 192.0.2.66  was ok, now deny no file\nchanged 1 of 1\n"
unfolding digits ipv4_in
no_file = refl

-- two verdicts stay as they were, one changes, and one can't be read
some_rules : log_printed (Some (codes "=.b.example:deny\n:allow\n")) (lines_of (codes "tcpserver: ok 1 :10.0.0.1:25 a.c.example:1.2.3.4::9\ntcpserver: ok 2 :10.0.0.1:25 a.B.example:1.2.3.4::9\nmail\ntcpserver: deny 3 :10.0.0.1:25 b?:1.2.3.4::9\ntcpserver: deny 4 :10.0.0.1:25 c.b.example:1.2.3.4::9")) ≡ codes "2 1.2.3.4 a.B.example was ok, now deny rule =.b.example:\nchanged 1 of 3\nunread 1\n"
unfolding digits ipv4_in is_utf8 chars encode
some_rules = refl

-- the lines behind the command are the log, whatever they are
whole_script : sim (codes "|:deny\nverdicts\ninstall\nnonsense\n") ≡ record { output = codes "changed 0 of 0\n"; bad = None }
unfolding digits ipv4_in is_utf8 chars encode
whole_script = refl
