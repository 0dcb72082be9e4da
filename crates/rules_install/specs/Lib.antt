-- Installations of rule texts: the file that each makes, its steps, and what stands under the name of the rules file.
pub mod Beside
pub mod Filled
pub mod Installing
pub mod Installs
pub mod NamePair
pub mod ParseFaults
pub mod Pieces
pub mod Layout
pub mod Series
pub mod Steps
pub mod Whole
