-- What `tcprules -n` tells of a text.
use Rattle.std.specs.Prelude.{◌≡◌, ℕ, List, Option, Some, IfSome}
use Rattle.rule_lines.specs.Faults.{fault_of}
use Rattle.rule_lines.specs.declared.limits.Limits.{Limits}
use Rattle.rule_warnings.specs.declared.report.WarnFault.{WarnFault}
use Rattle.rule_warnings.specs.declared.report.WarnFault.TheVariants as warn
use Rattle.rules_tools.specs.declared.review.ReviewFault.{ReviewFault}
use Rattle.rules_tools.specs.declared.review.ReviewFault.TheVariants.{ReadFault, Text, WriteFault, OutOfMemory}

-- the limits of the tools
abbrev pub profile : Limits
profile = record { text = 67108864; line = 65536; file = 1073741824 }

-- a text is refused with its fault; else the reader, the writer or memory fails
abbrev pub ReviewFails : Option (List ℕ) → ReviewFault → Type 0
ReviewFails input ReadFault = Unit {0}
ReviewFails input (Text fault) = IfSome input (λ text. fault_of profile text ≡ Some fault)
ReviewFails input WriteFault = Unit {0}
ReviewFails input OutOfMemory = Unit {0}

-- what is told of a fault
abbrev pub told_warning : WarnFault → ReviewFault
told_warning (warn.Line fault) = Text fault
told_warning warn.WriteFault = WriteFault
told_warning warn.OutOfMemory = OutOfMemory

-- what holds where no warning was looked for: the text could not be read, or is refused
abbrev pub OnNoReview : ReviewFault → Type 0 → Type 0
OnNoReview ReadFault fact = fact
OnNoReview (Text fault) fact = fact
OnNoReview WriteFault fact = Unit {0}
OnNoReview OutOfMemory fact = Unit {0}
