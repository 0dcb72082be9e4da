-- The definitions, evaluated on worked cases.
use Rattle.std.proofs.Common.{◌≡◌, ℕ, List, [], ◌∷◌, Option, Some, None, Ok, Err, refl}
use Rattle.std.specs.Prelude.{codes}
use Rattle.std.specs.Str.{is_utf8, chars}
use Rattle.std.specs.Fmt.{digits}
use lib.Utf8.{encode}
use Rattle.rule_lookup.specs.declared.code.CodeFault.TheVariants.{NotCode}
use Rattle.rule_lookup.specs.declared.instr.Verdict.{Verdict}
use Rattle.rule_lookup.specs.declared.instr.Verdict.TheVariants.{Allow, Deny}
use Rattle.rule_lookup.specs.declared.source.FindFault.TheVariants.{Short}
use Rattle.rule_lookup.specs.Lookups.{Has, Absent, Broken}
use Rattle.rule_lookup.specs.declared.decision.Decision.{Decision}
use Rattle.rule_lookup.specs.declared.decision.DecideFault.TheVariants.{Find, Code}
use Rattle.rule_lookup.specs.declared.decision.Found.TheVariants as found
use Rattle.rule_lookup.specs.Addresses.{ipv4_in}
use Rattle.rule_lookup.specs.Decisions.{asked, by_default, decision_by, decision_of}
use Rattle.rule_lookup.specs.Forms.{forms_of}
use Rattle.rule_lookup.specs.Peers.{Client}

from : List ℕ → Option (List ℕ) → Option (List ℕ) → Client
from ip host info = record { ip = ip; port = 0; host = host; info = info }

local : List ℕ
local = 127 ∷ 0 ∷ 0 ∷ 1 ∷ []

-- a rule's decision, its settings left out
by : List ℕ → Verdict → Decision
by address verdict = record { found = found.Address address; verdict = verdict; settings = [] }

-- forms
all_forms : forms_of (from (1 ∷ 2 ∷ 3 ∷ 4 ∷ []) (Some (codes "a.b.example")) (Some (codes "joe"))) ≡ codes "joe@1.2.3.4" ∷ codes "joe@=a.b.example" ∷ codes "1.2.3.4" ∷ codes "=a.b.example" ∷ codes "1.2.3." ∷ codes "1.2." ∷ codes "1." ∷ codes "=.b.example" ∷ codes "=.example" ∷ codes "=" ∷ [] ∷ []
unfolding from digits
all_forms = refl

forms_of_an_address : forms_of (from local None None) ≡ codes "127.0.0.1" ∷ codes "127.0.0." ∷ codes "127.0." ∷ codes "127." ∷ [] ∷ []
unfolding from local digits
forms_of_an_address = refl

forms_of_a_user : forms_of (from local None (Some (codes "A=B"))) ≡ codes "A=b@127.0.0.1" ∷ codes "127.0.0.1" ∷ codes "127.0.0." ∷ codes "127.0." ∷ codes "127." ∷ [] ∷ []
unfolding from local digits
forms_of_a_user = refl

-- decisions
the_longest_prefix : decision_of (codes "10.2-3.:deny\n10.3.0.1:allow\n") (from (10 ∷ 3 ∷ 0 ∷ 2 ∷ []) None None) ≡ by (codes "10.3.") Deny
unfolding from by digits is_utf8 chars encode
the_longest_prefix = refl

the_first_of_equals : decision_of (codes "127.:deny\n127.:allow\n") (from local None None) ≡ by (codes "127.") Deny
unfolding from local by digits is_utf8 chars encode
the_first_of_equals = refl

the_host_before_a_prefix : decision_of (codes "127.:deny\n=A.B:allow\n") (from local (Some (codes "a.b")) None) ≡ by (codes "=a.b") Allow
unfolding from local by digits is_utf8 chars encode
the_host_before_a_prefix = refl

the_prefix_before_an_end_of_the_host : decision_of (codes "=.b:allow\n127.:deny\n") (from local (Some (codes "a.b")) None) ≡ by (codes "127.") Deny
unfolding from local by digits is_utf8 chars encode
the_prefix_before_an_end_of_the_host = refl

no_rule : decision_of (codes "10.:deny\n=:deny\n") (from local None None) ≡ by_default
unfolding from local digits is_utf8 chars encode
no_rule = refl

-- over a source that has something under each form, the first one decides
damage : decision_by (λ form. Broken) (from local None None) ≡ Err (Find Short)
unfolding from local digits
damage = refl

no_code : decision_by (λ form. Has (codes "D")) (from local None None) ≡ Err (Code NotCode)
unfolding from local digits is_utf8 chars encode
no_code = refl

nothing : decision_by (λ form. Absent) (from local None None) ≡ Ok by_default
unfolding from local digits
nothing = refl

one_is_asked : asked (λ form. Broken) (codes "1." ∷ [] ∷ []) ≡ codes "1." ∷ []
one_is_asked = refl

all_are_asked : asked (λ form. Absent) (codes "1." ∷ [] ∷ []) ≡ codes "1." ∷ [] ∷ []
all_are_asked = refl

-- addresses
address : ipv4_in (codes "10.0.0.255") ≡ Some (10 ∷ 0 ∷ 0 ∷ 255 ∷ [])
unfolding ipv4_in digits
address = refl

leading_zero : ipv4_in (codes "10.0.0.01") ≡ None
unfolding ipv4_in digits
leading_zero = refl

number_too_large : ipv4_in (codes "10.0.0.256") ≡ None
unfolding ipv4_in digits
number_too_large = refl

three_numbers : ipv4_in (codes "10.0.0") ≡ None
unfolding ipv4_in digits
three_numbers = refl

empty_number : ipv4_in (codes "10..0.1") ≡ None
unfolding ipv4_in digits
empty_number = refl
