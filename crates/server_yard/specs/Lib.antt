-- The yard: the connections of a server with their places, what its events change, and its runs.
pub mod Rooms
pub mod Rolls
pub mod Seating
pub mod Runs
pub mod Passes
pub mod Yards
pub mod Evidence
