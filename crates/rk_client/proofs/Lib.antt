pub mod Frames
pub mod Arguments
pub mod Ops
