-- The lines of the end that it is, one after another.
use Rattle.std.proofs.Common.{[], refl}
use Rattle.server_log.specs.Lines.{error, start_text}
use Rattle.server_log.proofs.LogLemmas.{holds_as}
use Rattle.server_log.proofs.lines.Lines.add_end.Goals as goal

pub returns-in-StartFailed : goal.returns-in-StartFailed
returns-in-StartFailed c = λ none.
    let start = error c.args.to.level (start_text c.in-StartFailed.serial c.in-StartFailed.fault) in
    rw c.in-StartFailed.is (c.add_cause.ensures _ (holds_as [] _ start (rw c.start_line.ensures refl) (c.add.ensures [] none)))

pub returns-in-Ended : goal.returns-in-Ended
returns-in-Ended c = λ none. rw c.in-Ended.is (c.add_exit.ensures [] none)

pub returns-in-Retired : goal.returns-in-Retired
returns-in-Retired c = λ none. rw c.in-Retired.is (holds_as [] _ _ (rw c.retired_line.ensures refl) (c.add-in-Retired.ensures [] none))

pub returns-in-Dropped : goal.returns-in-Dropped
returns-in-Dropped c = λ none.
    rw c.in-Dropped.is (c.add_cause-in-Dropped-2.ensures _ (c.add_cause-in-Dropped.ensures _ (c.add_drop.ensures [] none)))
