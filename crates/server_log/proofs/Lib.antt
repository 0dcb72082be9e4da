-- Proofs for the log.
pub mod LogLemmas
