pub mod EntryLists
pub mod History
pub mod InMemory
pub mod Results
