pub mod Address
pub mod Bytes
pub mod Decimal
pub mod Lines
pub mod Name
