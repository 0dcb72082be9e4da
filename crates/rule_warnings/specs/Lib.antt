-- What lines of a rule text say less than they seem to: which addresses no peer has as a form, and the warnings of a text.
pub mod Clients
pub mod Findings
pub mod LentLines
pub mod Names
pub mod Spans
pub mod Tables
pub mod Warnings
