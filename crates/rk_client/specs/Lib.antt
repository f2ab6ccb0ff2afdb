pub mod Arguments
pub mod Peer
pub mod Printed
pub mod Words
