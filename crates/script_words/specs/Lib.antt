-- The lines of a script of `rulesim`, as commands.
pub mod Events
pub mod Readings
pub mod Scripts
pub mod LogLines
pub mod Meanings
pub mod Parts
