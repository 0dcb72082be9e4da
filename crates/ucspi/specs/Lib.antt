-- What a server has by its words, and what is told of its end.
pub mod Asked
pub mod Ends
pub mod Rules
pub mod Words
