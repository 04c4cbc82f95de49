pub mod Standing
pub mod Packets
pub mod Ranges
pub mod Open
pub mod Keys
