mod Fields
mod Filling
mod Records
mod Growing
mod Reading
mod Runs
pub mod OneRecord
pub mod Histories
pub mod Whole
