-- The first form under which a source has something decides.
use Rattle.std.proofs.Common.{◌≡◌, ◌≢◌, ℕ, suc, ◌+◌, ◌<◌, ◌≤◌, true, cond, List, [], ◌∷◌, Option, Some, None, Result, Ok, Err, IfOk, IfErr, String, string_bytes, arith, map, length, get_or, drop, find, refl, sym, ap, subst, ◌∙◌}
use Rattle.std.specs.List.{Any}
use Rattle.std.proofs.lemmas.List.{at_drop_all, at_drop_more, length-map, get_or-map}
use Rattle.std.specs.declared.alloc.Global.{Global}
use Rattle.rule_lookup.specs.declared.source.FindFault.TheVariants.{Short, Device, OutOfMemory as NoMemoryToFind}
use Rattle.rule_lookup.specs.Codes.{decoded}
use Rattle.rule_lookup.specs.Lookups.{Finding, Has, Absent, Broken, Trust, Unknown, Honest, Sound, WhereKnown}
use Rattle.rule_lookup.specs.declared.decision.Decision.{Decision}
use Rattle.rule_lookup.specs.declared.decision.DecideFault.{DecideFault}
use Rattle.rule_lookup.specs.declared.decision.DecideFault.TheVariants.{Find, Code, OutOfMemory}
use Rattle.rule_lookup.specs.declared.instr.Instr.{Instr}
use Rattle.rule_lookup.specs.Decisions.{asked, by_default, by_rule, is_there, by_first, by_finding, by_code, instr_by, instr_in, DecisionFails, LookupFails}

-- what follows from a fact is known where the fact is
pub WhereKnown-map : (t : Trust) {A B : Type 0} → (A → B) → WhereKnown t A → WhereKnown t B
WhereKnown-map Unknown f a = tt
WhereKnown-map Honest f a = f a
WhereKnown-map Sound f a = f a

pub WhereKnown-map2 : (t : Trust) {A B C : Type 0} → (A → B → C) → WhereKnown t A → WhereKnown t B → WhereKnown t C
WhereKnown-map2 Unknown f a b = tt
WhereKnown-map2 Honest f a b = f a b
WhereKnown-map2 Sound f a b = f a b

pub WhereKnown-of : (t : Trust) {A : Type 0} → A → WhereKnown t A
WhereKnown-of Unknown a = tt
WhereKnown-of Honest a = a
WhereKnown-of Sound a = a

-- only where nothing is found no instruction is
instr_by-some : (o : Option Instr) → instr_by o ≡ Ok None → ⊥
instr_by-some None is = cc
instr_by-some (Some instr) is = cc

pub Absent-from : (x : Finding) → instr_in x ≡ Ok None → x ≡ Absent
Absent-from Absent is = refl
Absent-from (Has code) is = absurd (instr_by-some (decoded code) is)
Absent-from Broken is = absurd (cc)

is_there-from : (x : Finding) (r : Result (Option Instr) DecideFault) → r ≢ Ok None → instr_in x ≡ r → is_there x ≡ true
is_there-from Absent r some is = absurd (some (sym is))
is_there-from (Has code) r some is = refl
is_there-from Broken r some is = refl

-- what a look-up decides
abbrev decided_by : List ℕ → Result (Option Instr) DecideFault → Result Decision DecideFault
decided_by form (Err fault) = Err fault
decided_by form (Ok None) = Ok by_default
decided_by form (Ok (Some instr)) = Ok (by_rule form instr)

by_code-is : (form : List ℕ) (o : Option Instr) → by_code form o ≡ decided_by form (instr_by o)
by_code-is form None = refl
by_code-is form (Some instr) = refl

by_finding-is : (form : List ℕ) (x : Finding) → by_finding form x ≡ decided_by form (instr_in x)
by_finding-is form Absent = refl
by_finding-is form (Has code) = by_code-is form (decoded code)
by_finding-is form Broken = refl

device_no_memory : (let device : DecideFault = Find Device in device ≡ OutOfMemory) → ⊥
device_no_memory is = cc

module _ (finds : List ℕ → Finding) (t : Trust) (forms : List (List ℕ)) (i : ℕ) (form : List ℕ) (inside : i < length forms) (at : form ≡ get_or forms i form) where
  -- whether the search stops at this form
  step : find (λ f. is_there (finds f)) (drop i forms) ≡ cond (is_there (finds form)) (Some form) (find (λ f. is_there (finds f)) (drop (i + 1) forms))
  step =
      at_drop_more (find (λ f. is_there (finds f))) forms i form inside
      ∙ ap (λ (f : List ℕ). cond (is_there (finds f)) (Some f) (find (λ f. is_there (finds f)) (drop (i + 1) forms))) (sym at)

  -- where a form has nothing the first one comes later
  pub first-later : WhereKnown t (find (λ f. is_there (finds f)) (drop i forms) ≡ find (λ f. is_there (finds f)) forms) → WhereKnown t (finds form ≡ Absent) → WhereKnown t (find (λ f. is_there (finds f)) (drop (i + 1) forms) ≡ find (λ f. is_there (finds f)) forms)
  first-later so_far absent =
      WhereKnown-map2 t (λ s e. sym (step ∙ ap (λ x. cond (is_there x) (Some form) (find (λ f. is_there (finds f)) (drop (i + 1) forms))) e) ∙ s) so_far absent

  -- the forms that are looked up from this one on
  asked-step : asked finds (drop i forms) ≡ form ∷ cond (is_there (finds form)) [] (asked finds (drop (i + 1) forms))
  asked-step =
      at_drop_more (asked finds) forms i form inside
      ∙ ap (λ (f : List ℕ). f ∷ cond (is_there (finds f)) [] (asked finds (drop (i + 1) forms))) (sym at)

  -- a fault under this form is one under them
  pub Any-asked-here : (P : List ℕ → Type 0) → WhereKnown t (Any P (asked finds (drop i forms)) → Any P (asked finds forms)) → P form → WhereKnown t (Any P (asked finds forms))
  Any-asked-here P so_far holds =
      WhereKnown-map t (λ back. back (subst (Any P) (sym asked-step) (0, form, omega arith, refl, holds))) so_far

  -- where a form has nothing, so is one under the later ones
  pub Any-asked-later : (P : List ℕ → Type 0) → WhereKnown t (Any P (asked finds (drop i forms)) → Any P (asked finds forms)) → WhereKnown t (finds form ≡ Absent) → WhereKnown t (Any P (asked finds (drop (i + 1) forms)) → Any P (asked finds forms))
  Any-asked-later P so_far absent =
      WhereKnown-map2 t (λ back e any.
      let here = asked-step ∙ ap (λ x. form ∷ cond (is_there x) [] (asked finds (drop (i + 1) forms))) e in
      back (subst (Any P) (sym here) (suc any.0, any.1, omega (arith, any.2), any.3, any.4))) so_far absent

  -- where it has something this decides
  here : (r : Result (Option Instr) DecideFault) → r ≢ Ok None → WhereKnown t (find (λ f. is_there (finds f)) (drop i forms) ≡ find (λ f. is_there (finds f)) forms) → WhereKnown t (instr_in (finds form) ≡ r) → WhereKnown t (by_first finds (find (λ f. is_there (finds f)) forms) ≡ decided_by form r)
  here r some so_far is =
      WhereKnown-map2 t (λ s e.
      let there = is_there-from (finds form) r some e in
      sym (ap (by_first finds) (sym (step ∙ ap (λ b. cond b (Some form) (find (λ f. is_there (finds f)) (drop (i + 1) forms))) there) ∙ s)) ∙ by_finding-is form (finds form) ∙ ap (decided_by form) e) so_far is

  -- an instruction under the form decides
  pub decided-here : (instr : Instr) (r : Result Decision DecideFault) → WhereKnown t (find (λ f. is_there (finds f)) (drop i forms) ≡ find (λ f. is_there (finds f)) forms) → WhereKnown t (instr_in (finds form) ≡ Ok (Some instr)) → IfOk r (λ decision. decision ≡ by_rule form instr) → IfOk r (λ decision. WhereKnown t (by_first finds (find (λ f. is_there (finds f)) forms) ≡ Ok decision))
  decided-here instr (Ok decision) so_far has is =
      WhereKnown-map t (λ h. h ∙ ap (λ (d : Decision). Ok d) (sym is)) (here (Ok (Some instr)) (λ e. absurd (cc)) so_far has)
  decided-here instr (Err fault) so_far has is = tt

  -- a look-up that fails makes the decision fail
  pub refused-look_up : (fault : DecideFault) → WhereKnown t (find (λ f. is_there (finds f)) (drop i forms) ≡ find (λ f. is_there (finds f)) forms) → LookupFails t (instr_in (finds form)) fault → DecisionFails t (by_first finds (find (λ f. is_there (finds f)) forms)) fault
  refused-look_up (Find Short) so_far fails = here (Err (Find Short)) (λ e. absurd (cc)) so_far fails
  refused-look_up (Find Device) so_far fails = fails
  refused-look_up (Find NoMemoryToFind) so_far fails = fails
  refused-look_up (Code fault) so_far fails = here (Err (Code fault)) (λ e. absurd (cc)) so_far fails
  refused-look_up OutOfMemory so_far fails = tt

-- want of memory says nothing of a decision
pub refused-memory : (t : Trust) (expected : Result Decision DecideFault) (r : Result Decision DecideFault) → IfErr r (λ fault. fault ≡ OutOfMemory) → IfErr r (DecisionFails t expected)
refused-memory t expected (Ok decision) memory = tt
refused-memory t expected (Err fault) memory = rw memory tt

-- and is no fault of a device
pub no_device : {P : Type 0} (r : Result Decision DecideFault) → IfErr r (λ fault. fault ≡ OutOfMemory) → r ≡ Err (Find Device) → P
no_device r memory is = absurd (device_no_memory (subst (λ (r : Result Decision DecideFault). IfErr r (λ fault. fault ≡ OutOfMemory)) is memory))

-- a form that is read from a list of texts is one of the forms that they are
pub form_at : (texts : List (String Global)) (forms : List (List ℕ)) (i : ℕ) (text : String Global) → map string_bytes texts ≡ forms → i < length texts → text ≡ get_or texts i text → (i < length forms) × (string_bytes text ≡ get_or forms i (string_bytes text))
form_at texts forms i text all inside at =
    let positions : length texts ≡ length forms = sym (length-map texts string_bytes) ∙ ap length all in (
      omega arith,
      ap string_bytes at ∙ sym (get_or-map string_bytes texts i text (string_bytes text) inside) ∙ ap (λ (fs : List (List ℕ)). get_or fs i (string_bytes text)) all,
    )

-- nor is a decision, nor want of memory
pub decision_no_device : {P : Type 0} (decision : Decision) → ◌≡◌ {A = Result Decision DecideFault} (Ok decision) (Err (Find Device)) → P
decision_no_device decision is = absurd (cc)

pub memory_no_device : {P : Type 0} (r : Result Decision DecideFault) (fault : DecideFault) → r ≡ Err fault → fault ≡ OutOfMemory → r ≡ Err (Find Device) → P
memory_no_device r fault fails memory is = absurd (cc)

-- where no form is left the default decides
pub decided-default : (finds : List ℕ → Finding) (t : Trust) (texts : List (String Global)) (forms : List (List ℕ)) (i : ℕ) (decision : Decision) → map string_bytes texts ≡ forms → length texts ≤ i → decision ≡ by_default → WhereKnown t (find (λ f. is_there (finds f)) (drop i forms) ≡ find (λ f. is_there (finds f)) forms) → WhereKnown t (by_first finds (find (λ f. is_there (finds f)) forms) ≡ Ok decision)
decided-default finds t texts forms i decision all past is so_far =
    let positions : length texts ≡ length forms = sym (length-map texts string_bytes) ∙ ap length all in
    let none = at_drop_all (find (λ f. is_there (finds f))) forms i (omega arith) in
    WhereKnown-map t (λ s. sym (ap (by_first finds) (sym none ∙ s)) ∙ ap (λ (d : Decision). Ok d) (sym is)) so_far
