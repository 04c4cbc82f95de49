pub mod Clock
pub mod Entropy
pub mod Fill
pub mod Link
pub mod Sink
pub mod Source
pub mod Wire
