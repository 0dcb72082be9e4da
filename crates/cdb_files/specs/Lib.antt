-- Compiled files: records and hashes, slots and how they are probed, what any compiled file holds, and the one that is written.
-- What a lookup in a compiled file finds, whatever the bytes of the file.
pub mod Format
pub mod Slots
pub mod IsCdb
pub mod Image
pub mod Written
pub mod Tables
pub mod Compiled
pub mod Parts
pub mod Reading
pub mod Sources
pub mod Stages
