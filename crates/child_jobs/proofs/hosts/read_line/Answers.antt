use Rattle.std.proofs.Common.{◌<◌, length, ◌∙◌, ap, arith}
use Rattle.std.proofs.lemmas.Grind.{common_steps}
use Rattle.child_jobs.specs.HostRows.{row_of_trimmed}
use Rattle.child_jobs.proofs.WordLemmas.{row_gives}
use Rattle.child_jobs.proofs.hosts.read_line.Goals as goal

pub returns-in_ok-host_name-in-None-clause-row : goal.returns-in_ok-host_name-in-None-clause-row
returns-in_ok-host_name-in-None-clause-row c =
    let line = c.trim_blanks-line.result.now in
    let some : 0 < length line = grind (arith, common_steps, c.if-is_empty.ensures) in
    row_gives line c.split_words.result.0.now c.split_words.result.1.now c.in_ok-address-in-None.field-0 c.in_ok-host_name-in-None.field-0.now some c.if-line-eq35.false c.split_words.ensures.first c.split_words.ensures.second c.in-None.ensures.cases c.in_ok-address-in-None.ensures c.in_ok-host_name-in-None.ensures
    ∙ ap row_of_trimmed c.trim_blanks-line.ensures
