-- Paths, a folder of rules, what a run of `tcprules` does, what becomes of its scratch file after a fault, what is told of an installation that
-- failed and of a text, and what `tcprulescheck` tells of a compiled file.
pub mod Causes
pub mod Checks
pub mod Clients
pub mod Disks
pub mod FolderParts
pub mod Installed
pub mod Paths
pub mod Reviews
pub mod Rules
pub mod Scratch
pub mod Series
pub mod Shells
pub mod Told
