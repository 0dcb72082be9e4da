use Rattle.std.proofs.Common.{◌∙◌, ◌&&◌, length, sym, ap, rules, tests}
use Rattle.std.specs.List.{list_all}
use Rattle.std.proofs.lemmas.Bool.{lt-ltb}
use Rattle.std.proofs.lemmas.Iterator.{YieldsList-from_slice}
use Rattle.std.proofs.lemmas.Iterator.Search.{all_from_yields_List}
use Rattle.script_words.specs.LogLines.{is_plain}
use Rattle.script_words.proofs.log_line.is_whole.Goals as goal

pub returns-then-field-lt-FIELD : goal.returns-then-field-lt-FIELD
returns-then-field-lt-FIELD c =
    all_from_yields_List is_plain _ _ c.all.result c.all.ensures.ran (YieldsList-from_slice c.args.field.now cc) (λ x b q k. search (rules, tests))
    ∙ sym (ap (λ t. t && list_all is_plain c.args.field.now) (lt-ltb (length c.args.field.now) 100 c.if-field-lt-FIELD.true))
