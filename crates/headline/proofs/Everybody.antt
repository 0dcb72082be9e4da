-- The texts of the witnesses, with a rule for everybody, and their compiled files.
use Rattle.std.proofs.Common.{◌≡◌, ◌<◌, ◌^◌, ℕ, List, [], ◌∷◌, refl, arith}
use Rattle.std.specs.Str.{is_utf8, chars}
use lib.Utf8.{encode}
use Rattle.cdb_files.specs.Compiled.{stored}
use Rattle.cdb_files.specs.Image.{finished_length, image_of}
use Rattle.cdb_files.proofs.Joined.{written}
use Rattle.rule_lines.specs.Faults.{IsAccepted}
use Rattle.rule_lookup.specs.Pairs.{Rule, pairs_of}
use Rattle.rule_lines.specs.Texts.{AreOfText}
use Rattle.rule_lookup.specs.declared.instr.Verdict.{Verdict}
use Rattle.rule_lookup.specs.declared.instr.Verdict.TheVariants.{Allow, Deny}
use Rattle.rule_lines.specs.declared.limits.Limits.{Limits}
use Rattle.headline.specs.Witness.{for_everybody}
use Rattle.headline.specs.Worlds.{IsOf}

-- `:allow` and `:deny`
abbrev text_for : Verdict → List ℕ
text_for Allow = 58 ∷ 97 ∷ 108 ∷ 108 ∷ 111 ∷ 119 ∷ []
text_for Deny = 58 ∷ 100 ∷ 101 ∷ 110 ∷ 121 ∷ []

abbrev some_limits : Limits
some_limits = record { text = 100; line = 100; file = 10000 }

is_accepted : (verdict : Verdict) → IsAccepted some_limits (text_for verdict)
unfolding is_utf8 chars encode
is_accepted Allow = refl
is_accepted Deny = refl

says : (verdict : Verdict) → pairs_of (text_for verdict) ≡ for_everybody verdict
unfolding is_utf8 chars encode
says Allow = refl
says Deny = refl

-- its rules are those of an accepted text
everybody_of_text : (verdict : Verdict) → AreOfText (for_everybody verdict)
everybody_of_text verdict = ∣ record { limits = some_limits; text = text_for verdict; accepted = is_accepted verdict; says = says verdict } ∣₁

-- each list of rules that is not too long has a compiled file
compiled : (rules : List Rule) → AreOfText rules → finished_length (stored rules) < 2 ^ 32 → (file : List ℕ) × IsOf rules file
compiled rules of_text fits = (image_of (stored rules), record { of_text = of_text; compiled = (written (stored rules) 256 refl fits).cdb })

pub for_deny : (file : List ℕ) × IsOf (for_everybody Deny) file
for_deny = compiled (for_everybody Deny) (everybody_of_text Deny) (omega arith)

pub for_allow : (file : List ℕ) × IsOf (for_everybody Allow) file
for_allow = compiled (for_everybody Allow) (everybody_of_text Allow) (omega arith)
