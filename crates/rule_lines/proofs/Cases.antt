-- The definitions, evaluated on worked cases.
use Rattle.std.proofs.Common.{◌≡◌, ℕ, List, [], ◌∷◌, ◌++◌, map, length, Some, None, refl}
use Rattle.std.specs.Prelude.{codes}
use Rattle.std.specs.Str.{is_utf8, chars}
use Rattle.std.specs.Fmt.{digits}
use lib.Utf8.{encode}
use Rattle.rule_lookup.specs.Pairs.{Rule, pairs_of}
use Rattle.rule_lines.specs.Faults.{fault_of}
use Rattle.rule_lookup.specs.Codes.{code_of, decoded}
use Rattle.rule_lines.specs.declared.fault.LineKind.TheVariants.{NoVerdict, BadSetting, BadRange, NotText, LongLine, LongText}
use Rattle.rule_lines.specs.declared.limits.Limits.{Limits}

profile : Limits
profile = record { text = 67108864; line = 65536; file = 1073741824 }

addresses : List ℕ → List (List ℕ)
addresses text = map (λ (rule : Rule). rule.address) (pairs_of text)

stored : List ℕ → List (List ℕ)
stored text = map (λ (rule : Rule). code_of rule.instr) (pairs_of text)

-- ranges
whole_range : length (addresses (codes "1.2.3.37-53:allow\n:deny\n")) ≡ 18
unfolding addresses digits is_utf8 chars encode
whole_range = refl

prefixes : addresses (codes "10.2-3.:deny\n10.3.0.1:allow\n") ≡ codes "10.2." ∷ codes "10.3." ∷ codes "10.3.0.1" ∷ []
unfolding addresses digits is_utf8 chars encode
prefixes = refl

no_upper_end : addresses (codes "1.2.3.5-:allow\n") ≡ []
unfolding addresses digits is_utf8 chars encode
no_upper_end = refl

no_lower_end : addresses (codes "1.2.3.-2:allow") ≡ codes "1.2.3.0" ∷ codes "1.2.3.1" ∷ codes "1.2.3.2" ∷ []
unfolding addresses digits is_utf8 chars encode
no_lower_end = refl

upper_end_cut : addresses (codes "1.2.3.254-999:allow") ≡ codes "1.2.3.254" ∷ codes "1.2.3.255" ∷ []
unfolding addresses digits is_utf8 chars encode
upper_end_cut = refl

leading_zeros : addresses (codes "1.2.3.07-8:allow") ≡ codes "1.2.3.7" ∷ codes "1.2.3.8" ∷ []
unfolding addresses digits is_utf8 chars encode
leading_zeros = refl

second_dash : addresses (codes "1-2.3-4:allow") ≡ codes "1.3-4" ∷ codes "2.3-4" ∷ []
unfolding addresses digits is_utf8 chars encode
second_dash = refl

lower_case : addresses (codes "=My-Host:allow\nJoe@1.2.3.4:allow\nJoe@=Host:allow") ≡ codes "=my-host" ∷ codes "Joe@1.2.3.4" ∷ codes "Joe@=host" ∷ []
unfolding addresses digits is_utf8 chars encode
lower_case = refl

-- faults
bad_range : fault_of profile (codes "1-2-3:allow") ≡ Some (record { line = 1; kind = BadRange })
unfolding profile is_utf8 chars encode
bad_range = refl

host_without_mark : fault_of profile (codes "my-host:allow") ≡ Some (record { line = 1; kind = BadRange })
unfolding profile is_utf8 chars encode
host_without_mark = refl

after_the_word : fault_of profile (codes ":deny\n1.2.3.4:allowed\n") ≡ Some (record { line = 2; kind = BadSetting })
unfolding profile is_utf8 chars encode
after_the_word = refl

name_alone : fault_of profile (codes "1.2.3.4:allow,X") ≡ Some (record { line = 1; kind = BadSetting })
unfolding profile is_utf8 chars encode
name_alone = refl

other_word : fault_of profile (codes "1.2.3.4:permit") ≡ Some (record { line = 1; kind = NoVerdict })
unfolding profile is_utf8 chars encode
other_word = refl

no_colon : fault_of profile (codes "nothing here\n") ≡ None
unfolding profile is_utf8 chars encode
no_colon = refl

over_the_text_limit : fault_of (record profile { text = 5 }) (codes ":deny\n") ≡ Some (record { line = 0; kind = LongText })
unfolding profile is_utf8 chars encode
over_the_text_limit = refl

over_the_line_limit : fault_of (record profile { line = 4 }) (codes ":deny\n") ≡ Some (record { line = 1; kind = LongLine })
unfolding profile is_utf8 chars encode
over_the_line_limit = refl

settings_run_on : fault_of profile (codes ":allow,A=\"x\"B=\"y\"") ≡ Some (record { line = 1; kind = BadSetting })
unfolding profile is_utf8 chars encode
settings_run_on = refl

-- a line that is no text is read by bytes, and refused for that only after the first three kinds
byte_quotes : fault_of profile (255 ∷ codes ":allow,A=" ++ 226 ∷ codes "x" ++ 226 ∷ []) ≡ Some (record { line = 1; kind = NotText })
unfolding profile is_utf8 chars encode
byte_quotes = refl

byte_quotes_apart : fault_of profile (255 ∷ codes ":allow,A=" ++ 226 ∷ codes "x" ++ 227 ∷ []) ≡ Some (record { line = 1; kind = BadSetting })
unfolding profile is_utf8 chars encode
byte_quotes_apart = refl

-- codes
empty_value : stored (codes ":allow,RELAYCLIENT=\"\"") ≡ (codes "+RELAYCLIENT=" ++ 0 ∷ []) ∷ []
unfolding stored digits is_utf8 chars encode
empty_value = refl

two_settings : stored (codes "1.:allow,A=/x,y/,B=|\"|") ≡ (codes "+A=x,y" ++ 0 ∷ [] ++ codes "+B=\"" ++ 0 ∷ []) ∷ []
unfolding stored digits is_utf8 chars encode
two_settings = refl

odd_names : stored (codes ":allow,A,B=\"x\"\n:deny,A==v=\t \n") ≡ (codes "+A,B=x" ++ 0 ∷ []) ∷ (68 ∷ 0 ∷ codes "+A=v" ++ 0 ∷ []) ∷ []
unfolding stored digits is_utf8 chars encode
odd_names = refl

wide_quote : stored (codes ":allow,A=" ++ (226 ∷ 130 ∷ 172 ∷ []) ++ codes "x" ++ (226 ∷ 130 ∷ 172 ∷ [])) ≡ (codes "+A=x" ++ 0 ∷ []) ∷ []
unfolding stored digits is_utf8 chars encode
wide_quote = refl

no_code_d : decoded (codes "D") ≡ None
unfolding is_utf8 chars encode
no_code_d = refl

no_code_name : decoded (codes "+A" ++ 0 ∷ []) ≡ None
unfolding is_utf8 chars encode
no_code_name = refl

no_code_empty_name : decoded (codes "+=x" ++ 0 ∷ []) ≡ None
unfolding is_utf8 chars encode
no_code_empty_name = refl
