pub mod Cuts
pub mod Decimals
pub mod Dotted
pub mod Forms
pub mod Keys
pub mod LineLemmas
pub mod Naming
pub mod Progress
