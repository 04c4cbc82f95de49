pub mod AccountLines
pub mod Finding
pub mod Keyed
pub mod Parsings
pub mod Printing
