pub mod Asking
pub mod Ending
pub mod Finding
pub mod Lines
pub mod Monitoring
pub mod Progress
pub mod Request
