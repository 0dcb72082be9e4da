-- The world that the events of a server and of installations beside it change, its steps, and the headline, which speaks of
-- them; what shows that it is not about nothing.
pub mod Again
pub mod Processes
pub mod Worlds
pub mod Steps
pub mod Headline
pub mod Taken
pub mod Within
pub mod Witness
