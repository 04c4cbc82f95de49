pub mod Keeping
pub mod Tearing
