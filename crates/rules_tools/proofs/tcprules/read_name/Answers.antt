use Rattle.std.proofs.Common.{◌≡◌, ℕ, Bool, true, false, cond, List, Option, Some, None, Result, Ok, Err, refl, sym, ap, ◌∙◌, length}
use Rattle.std.specs.Prelude.{nat_eq, nat_lt}
use Rattle.std.specs.List.{list_any}
use Rattle.std.specs.Option.{MatchOption}
use Rattle.std.specs.Str.{is_utf8}
use Rattle.dir_calls.specs.Names.{is_dots, name_fault}
use Rattle.dir_calls.specs.declared.name.NameFault.{NameFault}
use Rattle.dir_calls.specs.declared.name.NameFault.TheVariants.{Empty, TooLong, Slash, Nul, Dots, NotText, OutOfMemory}
use Rattle.rules_tools.proofs.tcprules.read_name.Goals as goal

-- no rule for names is about memory
by_tests : (a b c d e f : Bool) → cond a (Some Empty) (cond b (Some TooLong) (cond c (Some Slash) (cond d (Some Nul) (cond e (Some Dots) (cond f None (Some NotText)))))) ≡ Some OutOfMemory → ⊥
by_tests true b c d e f is = cc
by_tests false true c d e f is = cc
by_tests false false true d e f is = cc
by_tests false false false true e f is = cc
by_tests false false false false true f is = cc
by_tests false false false false false true is = cc
by_tests false false false false false false is = cc

no_memory_rule : (bytes : List ℕ) → name_fault bytes ≡ Some OutOfMemory → ⊥
no_memory_rule bytes is =
    by_tests (nat_eq (length bytes) 0) (nat_lt 255 (length bytes)) (list_any (λ byte. nat_eq byte 47) bytes) (list_any (λ byte. nat_eq byte 0) bytes) (is_dots bytes) (is_utf8 bytes) is

-- a name that was made breaks no rule
made_good : {A : Type 0} (rule : Option NameFault) (name : A) (P : Type 0) → MatchOption rule P (λ (fault : NameFault). Ok name ≡ Err fault) → rule ≡ None
made_good None name P made = refl
made_good (Some fault) name P made = cc

-- and neither do bytes for which there was no memory
unmade_good : (A : Type 0) (rule : Option NameFault) (bytes : List ℕ) (told : NameFault) (P : Type 0) → name_fault bytes ≡ rule → told ≡ OutOfMemory → MatchOption rule P (λ (fault : NameFault). (let made : Result A NameFault = Err told in made) ≡ Err fault) → rule ≡ None
unmade_good A None bytes told P is memory made = refl
unmade_good A (Some fault) bytes told P is memory made =
    let same : fault ≡ OutOfMemory = cc in
    absurd (no_memory_rule bytes (is ∙ ap Some same))

pub returns-in-Ok-clause-good : goal.returns-in-Ok-clause-good
returns-in-Ok-clause-good c =
    ap name_fault (sym c.as_bytes.ensures.value) ∙ made_good (name_fault c.as_bytes.result.now) c.in-Ok.name _ c.in-Ok.ensures.refused

pub returns-in-Err-OutOfMemory-clause-good : goal.returns-in-Err-OutOfMemory-clause-good
returns-in-Err-OutOfMemory-clause-good c =
    ap name_fault (sym c.as_bytes.ensures.value)
    ∙ unmade_good _ (name_fault c.as_bytes.result.now) c.as_bytes.result.now c.in-Err-OutOfMemory.field-0 _ refl c.in-Err-OutOfMemory.field-0-is c.in-Err-OutOfMemory.ensures.refused
