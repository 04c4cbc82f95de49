-- A whole run of a service, from its parts.
pub mod Asked
pub mod More
pub mod Answered
pub mod Wired
pub mod Kept
pub mod Goings
pub mod Works
pub mod Clocked
pub mod Listed
pub mod Served
pub mod Begun
pub mod Closed
pub mod Behind
pub mod Whole
pub mod Ended
