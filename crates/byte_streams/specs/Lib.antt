-- Pumps: what a tap sees, and what was written of what was read.
pub mod Pumps
pub mod Recorders
pub mod Taps
pub mod Pieces
pub mod Watches
pub mod Chains
pub mod Records
pub mod Wrappers
pub mod Wrapped
