pub mod ComputerText
pub mod Names
pub mod Parsing
pub mod Progress
pub mod Queries
pub mod Ranking
