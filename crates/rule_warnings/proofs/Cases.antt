-- The definitions, evaluated on worked cases.
use Rattle.std.proofs.Common.{◌≡◌, ℕ, true, false, [], ◌∷◌, refl}
use Rattle.std.specs.Prelude.{codes}
use Rattle.std.specs.Fmt.{digits}
use Rattle.rule_lookup.specs.Addresses.{ipv4_in}
use Rattle.rule_warnings.specs.declared.warning.Warning.{Warning}
use Rattle.rule_warnings.specs.declared.warning.WarningKind.{WarningKind}
use Rattle.rule_warnings.specs.declared.warning.WarningKind.TheVariants.{NoClient, UnknownUser, DecidedBy, BlankName, NobodyElse, Ignored}
use Rattle.rule_warnings.specs.Clients.{asks_user, is_form}
use Rattle.rule_warnings.specs.Warnings.{report_of, warnings_of}

at : ℕ → WarningKind → Warning
at line kind = record { line = line; kind = kind }

-- addresses
a_host : is_form (codes "=a.example") ≡ true
a_host = refl

any_host : is_form (codes "=") ≡ true
any_host = refl

a_host_in_capitals : is_form (codes "=A.example") ≡ false
a_host_in_capitals = refl

everyone : is_form [] ≡ true
everyone = refl

no_dot_at_its_end : is_form (codes "1.0.0") ≡ false
unfolding digits ipv4_in
no_dot_at_its_end = refl

a_network_by_its_length : is_form (codes "1.0.0.0/24") ≡ false
unfolding digits ipv4_in
a_network_by_its_length = refl

five_numbers : is_form (codes "1.2.3.4.5") ≡ false
unfolding digits ipv4_in
five_numbers = refl

a_prefix : is_form (codes "1.") ≡ true
unfolding digits ipv4_in
a_prefix = refl

a_user_at_a_host : is_form (codes "joe@=a") ≡ true
unfolding digits ipv4_in
a_user_at_a_host = refl

a_user_asked_for : asks_user (codes "joe@1.") ≡ true
a_user_asked_for = refl

a_host_with_an_at : asks_user (codes "=a@b") ≡ false
a_host_with_an_at = refl

-- texts
no_text : warnings_of [] ≡ at 0 NobodyElse ∷ []
unfolding at
no_text = refl

a_colon_left_out : warnings_of (codes "=a deny\n:deny\n") ≡ at 1 Ignored ∷ []
unfolding at digits
a_colon_left_out = refl

the_first_of_two : warnings_of (codes "=a:deny\n=A:allow\n:deny\n") ≡ at 2 (DecidedBy 1) ∷ []
unfolding at digits
the_first_of_two = refl

nobody_else : warnings_of (codes "=a:allow\n# the end\n") ≡ at 2 NobodyElse ∷ []
unfolding at digits
nobody_else = refl

all_of_a_range : warnings_of (codes "1-2.:deny\n1.:allow\n1-3.:deny\n2.-:deny\n:deny\n") ≡ at 2 (DecidedBy 1) ∷ at 4 NoClient ∷ []
unfolding at digits ipv4_in
all_of_a_range = refl

several_of_one_line : warnings_of (codes "joe@x:deny\njoe@x:deny\n #:deny") ≡ at 1 NoClient ∷ at 1 UnknownUser ∷ at 2 NoClient ∷ at 2 UnknownUser ∷ at 2 (DecidedBy 1) ∷ at 3 NoClient ∷ at 3 NobodyElse ∷ at 3 Ignored ∷ []
unfolding at digits ipv4_in
several_of_one_line = refl

a_blank_name : warnings_of (codes ":allow,A=/ x/, B=/y/\n") ≡ at 1 BlankName ∷ []
unfolding at digits
a_blank_name = refl

a_blank_value : warnings_of (codes ":allow,A=/x B=y/\n") ≡ []
unfolding at digits
a_blank_value = refl

-- lines
a_report : report_of (codes "=a:deny\n=a:allow\n") ≡ codes "tcprules: line 2: line 1 decides first\ntcprules: line 2: no rule for everyone else\ntcprules: rules by name need a host table\n"
unfolding digits
a_report = refl
