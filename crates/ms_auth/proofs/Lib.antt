pub mod Fields
pub mod RequestBytes
pub mod SignedBytes
pub mod Uniqueness
