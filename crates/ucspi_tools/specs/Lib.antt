-- Which tool words ask for, with which code a run of it exits, and what a run of the program is.
pub mod Causes
pub mod Choices
pub mod Exits
pub mod Runs
