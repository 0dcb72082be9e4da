-- As many right receipts as events are all of them.
use Rattle.std.proofs.Common.{arith, subst}
use Rattle.std.specs.Prelude.{◌≡◌, ◌+◌, Option, List, length}
use Rattle.server_events.specs.JournalParts.{books_of_journal}
use Rattle.server_events.specs.declared.journal.Journal.{Journal}
use Rattle.server_events.specs.declared.journal.Noted.{Noted}
use Rattle.whole_yard.specs.Closings.{IsWhole}
use Rattle.whole_yard.proofs.closing.audit_whole.Goals as goal

pub returns-then-receipts-notes-clause-whole : goal.returns-then-receipts-notes-clause-whole
returns-then-receipts-notes-clause-whole g c =
    let receipts = c.args.receipts.now in
    let notes = c.in-Some.notes.now in
    let as_many : length notes ≡ 0 + length receipts = omega arith in
    let all = c.whole.ensures notes receipts 0 c.in_default-audit.ensures.ok as_many (λ i n below at. absurd (omega arith)) in
    let kept = subst (λ (k : Option (List Noted)). IsWhole k receipts) c.in-Some.ensures all in
    subst (λ (j : Journal). IsWhole (books_of_journal j).notes receipts) c.journal.ensures kept
