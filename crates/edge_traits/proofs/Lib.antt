pub mod Clocks
mod Fronts
pub mod Links
pub mod Wires
