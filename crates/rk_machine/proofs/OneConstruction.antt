-- One construction: each happens once, in order.
pub mod EachOnce
