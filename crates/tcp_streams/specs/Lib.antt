-- Where connections come from, how their bytes pass and are recorded, and what line wrappers do to a text.
pub mod Asked
pub mod Recorders
pub mod Wrappers
