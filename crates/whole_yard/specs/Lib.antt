-- A yard that makes all calls: the connections of a server and installations beside them, what the headline's worlds
-- see of both, its callers, and whether receipts are its history.
pub mod Receipts
pub mod Callers
pub mod ConnectionTurns
pub mod UnderWay
pub mod Series
pub mod Standing
pub mod Serving
pub mod Telling
pub mod Findings
pub mod Stepping
pub mod Installed
pub mod Readers
pub mod Kept
pub mod WholeYards
pub mod YardTurns
pub mod Audits
pub mod Closings
