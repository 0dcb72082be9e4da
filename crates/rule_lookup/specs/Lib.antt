-- Rules: how a text is cut into lines, the pairs of a text, the code of an instruction, and what a look-up answers.
-- Peers, their lookup forms, and the decision that the first form with a rule makes.
pub mod Lines
pub mod Settings
pub mod Spread
pub mod Pairs
pub mod Codes
pub mod Lookups
pub mod Peers
pub mod Addresses
pub mod Decisions
pub mod Forms
pub mod Answers
