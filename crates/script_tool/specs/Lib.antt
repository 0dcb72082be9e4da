-- What `rulesim` prints for scripts; it passes on their commands.
pub mod Commands
pub mod Judging
pub mod Kept
pub mod Logs
pub mod Replies
pub mod Sim
pub mod Texts
pub use Rattle.script_words.specs.Events
pub use Rattle.script_words.specs.Readings
pub use Rattle.script_words.specs.Scripts
