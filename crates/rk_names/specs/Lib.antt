pub mod Rules
pub mod Longs
pub mod Numbers
pub mod Settings
pub mod Shares
