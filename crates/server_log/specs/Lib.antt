-- The log of a server.
pub mod Causes
pub mod Lines
pub mod Logs
pub mod Pieces
pub mod Reports
