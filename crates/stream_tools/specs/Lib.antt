-- What filters do and tell, the two ways of a program that stands between streams, what a program is told when it is started, the number of a recorder,
-- where programs are looked for, which pipe ends a job has, what a program is started with, and what is told of one that was not started.
pub mod Entries
pub mod Filters
pub mod Jobs
pub mod Lanes
pub mod Programs
pub mod Searches
pub mod Starts
pub use Rattle.byte_streams.specs.Chains
pub use Rattle.byte_streams.specs.Wrappers
