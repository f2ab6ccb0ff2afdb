-- First requester: a start has the context of its root.
pub mod WhoHoldsRings
pub mod RingsShown
pub mod EachRooted
