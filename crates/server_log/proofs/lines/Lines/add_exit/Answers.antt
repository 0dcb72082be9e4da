use Rattle.std.proofs.Common.{refl, ◌++◌}
use Rattle.std.proofs.lemmas.List.{append-nil}
use Rattle.server_log.specs.Lines.{end_text, progress}
use Rattle.server_log.proofs.LogLemmas.{holds_as}
use Rattle.server_log.proofs.lines.Lines.add_exit.Goals as goal

pub returns-in-Some : goal.returns-in-Some
returns-in-Some c = λ lines holds.
    let end = progress c.args.to.level (end_text c.args.serial c.args.status) in
    holds_as (lines ++ end) _ _ (rw (c.in-Some.is, c.signal_line.ensures) refl)
    (c.add-in-Some.ensures _ (holds_as lines _ end (rw c.end_line.ensures refl) (c.add.ensures lines holds)))

pub returns-in_default : goal.returns-in_default
returns-in_default c = λ lines holds.
    let end = progress c.args.to.level (end_text c.args.serial c.args.status) in
    rw (c.in_default.is, append-nil) (holds_as lines _ end (rw c.end_line.ensures refl) (c.add.ensures lines holds))
