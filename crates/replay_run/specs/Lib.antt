pub mod Totals
pub mod Replay
pub mod Judged
pub mod Running
