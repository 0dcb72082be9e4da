use Rattle.std.proofs.Common.{◌≡◌, ◌++◌, List, ℕ, ap, codes, refl}
use Rattle.rule_lines.specs.FaultTexts.{kind_text}
use Rattle.rule_lines.specs.declared.fault.LineKind.{LineKind}
use Rattle.rule_lines.specs.declared.fault.LineKind.TheVariants.{NoVerdict, BadSetting, BadRange, NotText, NulByte, LongLine, LongText}
use Rattle.byte_text.proofs.Appends.{OnOk-line}
use Rattle.script_tool.specs.Replies.{fault_text, numbered}
use Rattle.script_tool.proofs.AskLemmas.{OnOk-same}
use Rattle.script_tool.proofs.replies.append_fault.Goals as goal

-- all faults but one have a line
is_numbered : (line : ℕ) (kind : LineKind) → (kind ≡ LongText → ⊥) → numbered line kind ≡ fault_text line kind
is_numbered line LongText other = absurd (other refl)
is_numbered line NoVerdict other = refl
is_numbered line BadSetting other = refl
is_numbered line BadRange other = refl
is_numbered line NotText other = refl
is_numbered line NulByte other = refl
is_numbered line LongLine other = refl

pub returns-in-LongText : goal.returns-in-LongText
returns-in-LongText c =
    rw c.in-LongText.is
    (OnOk-line (kind_text LongText ++ codes "\n") c.args.out.now.items c.append_line.new.out.items c.append_line.result
    (rw (c.as_str.ensures, c.in-LongText.is) at c.append_line.ensures))

pub returns-in_default : goal.returns-in_default
returns-in_default c =
    let fault = c.args.fault.now in
    OnOk-same (numbered fault.line fault.kind ++ codes "\n") (fault_text fault.line fault.kind ++ codes "\n") c.args.out.now.items c.append_line-in_default.new.out.items c.append_line-in_default.result
    (ap (λ (l : List ℕ). l ++ codes "\n") (is_numbered fault.line fault.kind c.in_default.not-LongText)) (rw c.as_str.ensures at c.append_line-in_default.ensures)
