-- What a call that appends leaves, and the fields of a line.
pub mod Outcomes
pub mod Fields
pub mod Causes
pub mod NotingStream
pub mod Numbers
