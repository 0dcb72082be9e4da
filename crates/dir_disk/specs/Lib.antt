-- A directory over a disk: what the disk promises, and which bytes are kept back.
pub mod DiskFaults
pub mod DiskSteps
pub mod KeptImages
pub mod OsDir
pub mod OsFile
pub mod OsParts
