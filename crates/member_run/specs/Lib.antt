pub mod Asking
pub mod Borrowing
pub mod Closing
pub mod Reserving
pub mod Running
pub mod Starting
pub mod Taking
pub mod Turning
