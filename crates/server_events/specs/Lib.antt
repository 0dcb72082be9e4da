-- The state that events lead to and what its fields keep, the table of events that may happen, who is alive, and reports.
-- What a journal tells of the events that it noted, and stores of them.
pub mod ServerState
pub mod Addresses
pub mod Kept
pub mod Live
pub mod Reports
pub mod JournalParts
pub mod Journals
pub use Rattle.rule_lookup.specs.Decisions
pub use Rattle.rule_lookup.specs.Peers
