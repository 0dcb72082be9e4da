-- What a server's words ask for, its program and its limits.
pub mod Asked
pub mod Limits
pub mod RulesPaths
pub mod Services
