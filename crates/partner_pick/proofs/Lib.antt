mod Orders
pub mod Parsings
mod Ranks
mod SameNames
mod Steps
