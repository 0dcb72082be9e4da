-- A disk in memory.
pub mod MemDisk
