-- A request, and the key that it makes.
pub mod NewKey
pub mod RequestByParts
