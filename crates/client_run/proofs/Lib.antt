pub mod Sessions
pub mod Replies
pub mod Faults
pub mod Endings
pub mod Answering
pub mod Once
pub mod OneAnswer
