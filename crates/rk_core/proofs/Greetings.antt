-- HELLO and its rings.
pub mod RingsOfAContext
pub mod UserRing
pub mod HelloTakesNothing
