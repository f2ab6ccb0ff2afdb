mod Words
pub mod ServedLaws
pub mod PeerLists
pub mod Standings
pub mod Places
pub mod Watching
pub mod Queues
pub mod PeersFit
pub mod Kept
pub mod Weight
pub mod Moving
pub mod Orders
pub mod OwnSteps
