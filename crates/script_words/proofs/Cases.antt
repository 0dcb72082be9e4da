-- The definitions, evaluated on worked cases.
use Rattle.std.proofs.Common.{◌≡◌, ℕ, List, [], ◌∷◌, Some, None, Option, refl}
use Rattle.std.specs.Prelude.{codes}
use Rattle.std.specs.Fmt.{digits}
use Rattle.rule_lookup.specs.declared.instr.Verdict.TheVariants.{Allow, Deny}
use Rattle.rule_lookup.specs.Addresses.{ipv4_in}
use Rattle.rule_lookup.specs.Peers.{Client}
use Rattle.child_jobs.specs.Ends.{LocalEnd}
use Rattle.script_words.specs.LogLines.{Other, Unread, Tells, reading}

here : LocalEnd
here = record { ip = 127 ∷ 0 ∷ 0 ∷ 1 ∷ []; port = 25; host = Some (codes "mail") }

there : Option (List ℕ) → Option (List ℕ) → Client
there host info = record { ip = 10 ∷ 0 ∷ 0 ∷ 5 ∷ []; port = 4242; host = host; info = info }

with_host : reading (codes "tcpserver: ok 7 mail:127.0.0.1:25 a.example:10.0.0.5::4242") ≡ Tells (record { verdict = Allow; serial = 7; local = here; peer = there (Some (codes "a.example")) None })
unfolding here there digits ipv4_in
with_host = refl

without_host : reading (codes "tcpserver: deny 18446744073709551615 mail:127.0.0.1:25 :10.0.0.5:joe:4242") ≡ Tells (record { verdict = Deny; serial = 18446744073709551615; local = here; peer = there None (Some (codes "joe")) })
unfolding here there digits ipv4_in
without_host = refl

marked : reading (codes "tcpserver: ok 7 mail:127.0.0.1:25 a?example:10.0.0.5::4242") ≡ Unread
unfolding digits ipv4_in
marked = refl

no_port : reading (codes "tcpserver: ok 7 mail:127.0.0.1:25 a.example:10.0.0.5:4242") ≡ Unread
unfolding digits ipv4_in
no_port = refl

leading_zero : reading (codes "tcpserver: ok 07 mail:127.0.0.1:25 a.example:10.0.0.5::4242") ≡ Unread
unfolding digits ipv4_in
leading_zero = refl

large_serial : reading (codes "tcpserver: ok 18446744073709551616 mail:127.0.0.1:25 a.example:10.0.0.5::4242") ≡ Unread
unfolding digits ipv4_in
large_serial = refl

large_port : reading (codes "tcpserver: ok 7 mail:127.0.0.1:65536 a.example:10.0.0.5::4242") ≡ Unread
unfolding digits ipv4_in
large_port = refl

two_blanks : reading (codes "tcpserver: ok 7  mail:127.0.0.1:25 a.example:10.0.0.5::4242") ≡ Unread
unfolding digits ipv4_in
two_blanks = refl

another_line : reading (codes "tcpserver: end 7 status 0") ≡ Other
another_line = refl

no_blank : reading (codes "tcpserver: ok") ≡ Other
no_blank = refl

stamp_in_front : reading (codes "@400000004a2b tcpserver: ok 7 mail:127.0.0.1:25 a.example:10.0.0.5::4242") ≡ Other
stamp_in_front = refl

-- a name of a hundred bytes is cut, and one of a byte less is not
cut : reading (codes "tcpserver: ok 7 mail:127.0.0.1:25 xxxxxxxxxxxxxxxxxxxxxxxxxxxxxxxxxxxxxxxxxxxxxxxxxxxxxxxxxxxxxxxxxxxxxxxxxxxxxxxxxxxxxxxxxxxxxxxxxxxx...:10.0.0.5::4242") ≡ Unread
unfolding digits ipv4_in
cut = refl

not_cut : reading (codes "tcpserver: ok 7 mail:127.0.0.1:25 xxxxxxxxxxxxxxxxxxxxxxxxxxxxxxxxxxxxxxxxxxxxxxxxxxxxxxxxxxxxxxxxxxxxxxxxxxxxxxxxxxxxxxxxxxxxxxxxxxx:10.0.0.5::4242") ≡ Tells (record { verdict = Allow; serial = 7; local = here; peer = there (Some (codes "xxxxxxxxxxxxxxxxxxxxxxxxxxxxxxxxxxxxxxxxxxxxxxxxxxxxxxxxxxxxxxxxxxxxxxxxxxxxxxxxxxxxxxxxxxxxxxxxxxx")) None })
unfolding here there digits ipv4_in
not_cut = refl
