-- Links of keys in rings, and the numbers of their names.
pub mod KeysOfAName
pub mod LinksAfter
pub mod LinksByNumber
pub mod NumbersKept
pub mod SoleKeyOfAName
