pub mod Asked
pub mod Found
pub mod Served
