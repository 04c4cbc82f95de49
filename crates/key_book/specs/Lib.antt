pub mod AccountBook
pub mod AccountText
pub mod Book
pub mod Parsing
