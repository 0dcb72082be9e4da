-- What the ends of a connection are named, how its program is waited for, and how many connections were let in.
pub mod Names
pub mod Admissions
pub mod Ends
pub mod Rounds
