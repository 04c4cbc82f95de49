pub mod Fields
pub mod Headers
pub mod Moments
pub mod Uniqueness
