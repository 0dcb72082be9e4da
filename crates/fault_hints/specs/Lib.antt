-- Whom a tool speaks to, and what it tells behind the line of a fault.
pub mod Kept
pub mod Lines
pub mod Voices
pub mod Words
