pub mod Clock
pub mod Devices
pub mod Input
pub mod Output
pub mod Wire
