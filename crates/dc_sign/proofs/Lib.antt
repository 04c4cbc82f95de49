pub mod Deciding
mod Exchanges
mod Numbering
pub mod Replies
mod Taking
pub mod Uniqueness
