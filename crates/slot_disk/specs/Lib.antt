pub mod Told
pub mod Calls
pub mod Moments
pub mod Memory
pub mod Fuse
pub mod File
