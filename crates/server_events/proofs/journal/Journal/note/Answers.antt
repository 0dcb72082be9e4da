use Rattle.server_events.specs.JournalParts.{books_of_journal}
use Rattle.server_events.proofs.ReportSteps.{goes_on}
use Rattle.server_events.proofs.journal.Journal.note.Goals as goal

pub returns-in-Some-clause-goes_on : goal.returns-in-Some-clause-goes_on
returns-in-Some-clause-goes_on c = goes_on (books_of_journal c.args.self.now) _ c.args.event c.next-self.ensures c.saturating_add-self.ensures

pub returns-in_default-clause-goes_on : goal.returns-in_default-clause-goes_on
returns-in_default-clause-goes_on c = goes_on (books_of_journal c.args.self.now) _ c.args.event c.next-self.ensures c.saturating_add-self.ensures
