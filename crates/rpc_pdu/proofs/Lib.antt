mod Contexts
mod Fronts
mod Nexts
mod Places
mod Reading
pub mod Cuts
pub mod Flaws
pub mod Runs
pub mod Wires
pub mod Written
