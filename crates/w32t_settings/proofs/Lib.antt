pub mod Amounts
pub mod Counting
pub mod Exact
pub mod Items
pub mod Labels
pub mod Reading
pub mod Whole
