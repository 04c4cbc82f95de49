pub mod Advances
mod Firsts
pub mod Going
mod Lists
mod Offered
mod Parts
mod Replying
mod Served
pub mod Sessions
mod Stepping
mod Taking
pub mod Answered
pub mod Calling
pub mod Fields
pub mod Sources
