-- The lines that tell what became of a rule text, which phase was reached, and what events come to.
use Rattle.std.specs.Prelude.{ℕ, List, ◌++◌, Option, Some, None, codes, decimal}
use Rattle.rule_lines.specs.declared.fault.LineKind.{LineKind}
use Rattle.rule_lines.specs.declared.fault.LineKind.TheVariants.{LongText}
use Rattle.rule_lines.specs.FaultTexts.{kind_text}
use Rattle.dir_calls.specs.declared.phase.Phase.{Phase}
use Rattle.dir_calls.specs.PhaseWords.{phase_text}
use Rattle.server_events.specs.declared.report.Report.{Report}

-- a numbered line and its fault
abbrev pub numbered : ℕ → LineKind → List ℕ
numbered line kind = codes "line " ++ decimal line ++ codes ": " ++ kind_text kind

-- a fault: with its line, but for a text that is too long
abbrev pub fault_text : ℕ → LineKind → List ℕ
fault_text line LongText = kind_text LongText
fault_text line kind = numbered line kind

-- the phase that was reached, if an installation was begun
abbrev pub reached_line : Option Phase → List ℕ
reached_line None = codes "none\n"
reached_line (Some phase) = phase_text phase ++ codes "\n"

-- how many were admitted, and how many are live
abbrev pub report_front : Report → List ℕ
report_front report = codes "admitted " ++ decimal report.admitted ++ codes " live " ++ decimal report.live

-- the sums of a list of events
abbrev pub report_line : Report → List ℕ
report_line report =
    report_front report ++ codes " retired " ++ decimal report.retired ++ codes " most " ++ decimal report.most ++ codes "\n"

-- the position of an event that may not happen
abbrev pub illegal_line : ℕ → List ℕ
illegal_line position = codes "illegal " ++ decimal position ++ codes "\n"
