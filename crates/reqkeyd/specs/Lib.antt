pub mod Complaint
pub mod Doubted
pub mod Outcome
pub mod Reason
pub mod Rejoined
