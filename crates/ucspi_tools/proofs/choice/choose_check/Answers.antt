use Rattle.std.proofs.Common.{◌∙◌}
use Rattle.ucspi_tools.proofs.WordLemmas.{checks-text, checks-no_text}
use Rattle.ucspi_tools.proofs.choice.choose_check.Goals as goal

pub returns-in-Ok : goal.returns-in-Ok
returns-in-Ok c =
    checks-text c.args.voice c.args.verbose c.args.paths.now c.cdb-item.result c.in-len1.len_at_least c.in-len1.len_below c.cdb-item.is
    c.deref.result.now c.deref.ensures.value c.detail_by-detail.result c.in-Ok.cdb.now c.detail_by-detail.ensures c.in-Ok.ensures.cases.0 c.in-Ok.ensures.cases.1

pub returns-in-Err : goal.returns-in-Err
returns-in-Err c =
    c.usage_of.ensures
    ∙ checks-no_text c.args.voice c.args.verbose c.args.paths.now c.cdb-item.result c.in-len1.len_at_least c.in-len1.len_below c.cdb-item.is
    c.deref.result.now c.deref.ensures.value c.in-Err.ensures.cases.0
