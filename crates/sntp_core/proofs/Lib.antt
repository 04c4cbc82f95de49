pub mod Carrying
pub mod Finding
pub mod Places
pub mod Reading
pub mod Standings
pub mod Signed
