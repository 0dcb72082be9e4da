pub mod ScriptLemmas
pub mod Cases
pub mod FieldLemmas
pub mod FrontLemmas
pub mod LineLemmas
pub mod PartLemmas
pub mod PeerLemmas
