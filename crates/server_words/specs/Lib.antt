-- What the words of `tcpserver` ask for, and why they are refused.
pub mod Checks
pub mod Faults
pub mod Limits
pub mod Modes
pub mod Operands
pub mod Options
pub mod Plans
pub mod Wrappings
pub mod Letters
pub mod Numbers
pub mod OptionWords
pub mod Words
