-- What is let in, how it is greeted, what it finds, how it is served, and what was told last of it.
pub mod Accepting
pub mod Ends
pub mod Greetings
pub mod Lives
pub mod Openings
pub mod Servings
