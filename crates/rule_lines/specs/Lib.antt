-- The rules language: which line is a rule, what is wrong with one that is none, the addresses that a range stands for, and
-- how a list keeps the rules of a text.
pub mod Faults
pub mod FaultTexts
pub mod Kept
pub mod ReadAddresses
pub mod Rows
pub mod RuleFaults
pub mod Texts
