pub mod KeyLemmas
pub mod NameLemmas
pub mod RoomLemmas
pub mod RowLemmas
pub mod VariableLemmas
pub mod WordLemmas
pub mod PlaceLemmas
