pub mod Profile
pub mod Answering
pub mod Sessions
pub mod One
pub mod Serving
