-- What is printed of a fault.
use Rattle.std.specs.Prelude.{ℕ, List, codes}
use Rattle.rule_lines.specs.declared.fault.LineKind.{LineKind}
use Rattle.rule_lines.specs.declared.fault.LineKind.TheVariants.{NoVerdict, BadSetting, BadRange, NotText, NulByte, LongLine, LongText}

-- the text of a kind
abbrev pub kind_text : LineKind → List ℕ
kind_text NoVerdict = codes "no verdict"
kind_text BadSetting = codes "bad setting"
kind_text BadRange = codes "bad range"
kind_text NotText = codes "not text"
kind_text NulByte = codes "nul byte"
kind_text LongLine = codes "long line"
kind_text LongText = codes "text too long"
