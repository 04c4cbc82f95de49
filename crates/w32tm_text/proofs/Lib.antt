mod Confs
mod Shown
mod Spelling
mod Flags
pub mod Givens
mod Targets
