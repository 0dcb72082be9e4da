pub mod Cases
pub mod CheckLemmas
pub mod LineWrapperLemmas
pub mod LetterLemmas
pub mod OptionLemmas
pub mod RuleLemmas
pub mod WordLemmas
