pub mod After
pub mod Answered
pub mod Counting
pub mod Earlier
pub mod Gathers
mod Halves
pub mod Joins
pub mod Lists
pub mod Open
pub mod Positions
pub mod Room
pub mod Sent
pub mod Begins
