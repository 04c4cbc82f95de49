pub mod Image
pub mod Slots
pub mod Survey
pub mod Keep
pub mod Steps
pub mod Written
