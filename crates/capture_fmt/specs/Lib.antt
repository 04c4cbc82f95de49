pub mod Event
pub mod Record
pub mod Capture
pub mod Reader
pub mod Gather
