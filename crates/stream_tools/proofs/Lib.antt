pub mod EntryLemmas
pub mod FilterLemmas
pub mod LaneLemmas
pub mod WordLemmas
