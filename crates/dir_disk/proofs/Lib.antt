pub mod DiskWrites
pub mod KeptWrites
pub mod OsCalls
pub mod Removals
pub mod Steps
pub mod Told
