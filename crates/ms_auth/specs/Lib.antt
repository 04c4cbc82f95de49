pub mod Digest
pub mod Fields
pub mod Packet
pub mod Ready
pub mod Request
