pub mod Seats
pub mod Locked
pub mod Tickets
pub mod Closed
pub mod Settle
pub mod Waking
