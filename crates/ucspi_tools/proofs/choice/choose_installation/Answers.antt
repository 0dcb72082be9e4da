use Rattle.std.proofs.Common.{◌∙◌}
use Rattle.ucspi_tools.proofs.WordLemmas.{installs-texts, installs-first_no_text, installs-second_no_text}
use Rattle.ucspi_tools.proofs.choice.choose_installation.Goals as goal
use Rattle.ucspi_tools.proofs.choice.choose_installation.Goals.{in_default-2-via-in-Ok+in_default, in_default-2-via-in_default}

pub returns-in-Ok-Ok : goal.returns-in-Ok-Ok
returns-in-Ok-Ok c =
    installs-texts c.args.voice c.args.verbose c.args.paths.now c.cdb-item.result c.tmp-item.result c.in-len2.len_at_least c.in-len2.len_below c.cdb-item.is c.tmp-item.is
    c.deref.result.now c.deref-in-len2.result.now c.deref.ensures.value c.deref-in-len2.ensures.value c.detail_by-detail.result c.in-Ok-Ok.cdb.now c.in-Ok-Ok.tmp.now
    c.detail_by-detail.ensures c.in-Ok-Ok.ensures.cases c.in-Ok-Ok.ensures'.cases

-- a first word that is text, and a second one that is none; or a first one that is none
pub returns-in_default-2 : goal.returns-in_default-2
returns-in_default-2 c =
    c.usage_of.ensures ∙ (elim c.in_default-2.branch [
      | in_default-2-via-in-Ok+in_default w ↦
          installs-second_no_text c.args.voice c.args.verbose c.args.paths.now c.cdb-item.result c.tmp-item.result c.in-len2.len_at_least c.in-len2.len_below c.cdb-item.is c.tmp-item.is
          c.deref.result.now c.deref-in-len2.result.now c.deref.ensures.value c.deref-in-len2.ensures.value
          w.in_default-2.ensures.cases.1 w.in_default-2.ensures'.cases.0
      | in_default-2-via-in_default w ↦
          installs-first_no_text c.args.voice c.args.verbose c.args.paths.now c.cdb-item.result c.tmp-item.result c.in-len2.len_at_least c.in-len2.len_below c.cdb-item.is c.tmp-item.is
          c.deref.result.now c.deref-in-len2.result.now c.deref.ensures.value c.deref-in-len2.ensures.value
          w.in_default-2.ensures.cases.0
    ])
