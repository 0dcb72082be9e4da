-- Lemmas.
pub mod AfterStops
pub mod AllowedSteps
pub mod Done
pub mod Everybody
pub mod InstalledRuns
pub mod LeftNames
pub mod OlderText
pub mod Others
pub mod Openings
pub mod StandingTexts
pub mod StartedAgain
pub mod TwoProcesses
pub mod TwoTexts
pub mod WholeText
pub mod WithinLemmas
pub mod WovenSteps
