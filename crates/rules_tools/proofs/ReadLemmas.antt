-- A text that was read up to a byte over its limit has the fault of all, and is all where it is accepted.
use Rattle.std.proofs.Common.{◌≡◌, ℕ, ◌+◌, ◌<◌, cond, List, length, take, Option, None, Some, sym, ap, subst, ◌∙◌, arith, inl, inr}
use Rattle.std.specs.Prelude.{IfSome}
use Rattle.std.proofs.lemmas.Bool.{cases_lt, lt-ltb}
use Rattle.std.proofs.lemmas.List.{length-take-le, take_all}
use Rattle.rule_lines.specs.declared.fault.LineFault.{LineFault}
use Rattle.rule_lines.specs.declared.fault.LineKind.TheVariants.{LongText}
use Rattle.rule_lines.specs.declared.limits.Limits.{Limits}
use Rattle.rule_lines.specs.Faults.{IsAccepted, fault_of, first_faulty}
use Rattle.rule_lookup.specs.Lines.{lines_of}
use Rattle.rule_warnings.specs.declared.report.WarnFault.{WarnFault}
use Rattle.rule_warnings.specs.declared.report.WarnFault.TheVariants as warn
use Rattle.rule_warnings.specs.Findings.{WarnFails}
use Rattle.rules_tools.specs.Reviews.{ReviewFails, profile, told_warning}

-- what is too long is told to be
too_long : (limits : Limits) (text : List ℕ) → limits.text < length text → fault_of limits text ≡ Some (record { line = 0; kind = LongText })
too_long limits text long =
    ap (λ t. cond t (Some (record { line = 0; kind = LongText })) (first_faulty limits.line 1 (lines_of text))) (lt-ltb limits.text (length text) long)

-- a text is all where it is within the limit, and else both are too long
pub fault_read : (limits : Limits) (all : List ℕ) → fault_of limits (take (limits.text + 1) all) ≡ fault_of limits all
fault_read limits all = elim (cases_lt limits.text (length all)) [
  | inl long ↦
      let size = length-take-le (limits.text + 1) all (omega (arith, long)) in
      too_long limits (take (limits.text + 1) all) (omega (arith, size)) ∙ sym (too_long limits all long)
  | inr within ↦ ap (fault_of limits) (take_all (limits.text + 1) all (omega (arith, within)))
]

not_accepted : {P : Type 0} (fault : LineFault) → Some fault ≡ None → P
not_accepted fault is = absurd (cc)

all_read : (limits : Limits) (all : List ℕ) → IsAccepted limits (take (limits.text + 1) all) → take (limits.text + 1) all ≡ all
all_read limits all accepted = elim (cases_lt limits.text (length all)) [
  | inl long ↦
      let size = length-take-le (limits.text + 1) all (omega (arith, long)) in
      not_accepted (record { line = 0; kind = LongText }) (sym (too_long limits (take (limits.text + 1) all) (omega (arith, size))) ∙ accepted)
  | inr within ↦ take_all (limits.text + 1) all (omega (arith, within))
]

-- what holds of an accepted text that was read holds of the input
pub of_input : (limits : Limits) (input : Option (List ℕ)) (text : List ℕ) → IfSome input (λ all. text ≡ take (limits.text + 1) all) → IsAccepted limits text → (Q : List ℕ → Type 0) → Q text → IfSome input Q
of_input limits None text read accepted Q holds = tt
of_input limits (Some all) text read accepted Q holds =
    subst Q (read ∙ all_read limits all (subst (IsAccepted limits) read accepted)) holds

-- the limits by their parts
pub limits_are : (limits : Limits) → limits.text ≡ 67108864 → limits.line ≡ 65536 → limits.file ≡ 1073741824 → limits ≡ profile
limits_are limits text line file =
    ap (λ n. let l : Limits = record { text = n; line = limits.line; file = limits.file } in l) text
    ∙ ap (λ n. let l : Limits = record { text = 67108864; line = n; file = limits.file } in l) line
    ∙ ap (λ n. let l : Limits = record { text = 67108864; line = 65536; file = n } in l) file

-- a fault of the text that was read is one of the input
pub fault_of_input : (limits : Limits) (input : Option (List ℕ)) (text : List ℕ) (fault : WarnFault) → limits ≡ profile → IfSome input (λ all. text ≡ take (limits.text + 1) all) → WarnFails limits text fault → ReviewFails input (told_warning fault)
fault_of_input limits None text (warn.Line fault) is read fails = tt
fault_of_input limits (Some all) text (warn.Line fault) is read fails =
    subst (λ (l : Limits). fault_of l all ≡ Some fault) is (sym (ap (fault_of limits) read ∙ fault_read limits all) ∙ fails)
fault_of_input limits input text warn.WriteFault is read fails = tt
fault_of_input limits input text warn.OutOfMemory is read fails = tt
