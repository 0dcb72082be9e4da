-- A directory in memory: its entries, its files, and what it was before each of its calls.
pub mod Entries
pub mod Folder
pub mod Held
pub mod MemDir
pub mod Past
pub mod Stored
