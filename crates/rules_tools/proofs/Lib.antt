pub mod BeginLemmas
pub mod ClientLemmas
pub mod InstalledLemmas
pub mod ReadLemmas
pub mod RunLemmas
pub mod ToldLemmas
