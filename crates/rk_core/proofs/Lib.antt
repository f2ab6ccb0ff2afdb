mod Words
pub mod LinksAndNames
pub mod Vanishing
pub mod Searching
pub mod Requests
pub mod Completions
pub mod Greetings
pub mod Stepping
