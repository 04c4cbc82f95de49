pub mod Deeding
pub mod Weaves
pub mod ServiceWeaves
pub mod Orders
pub mod Doing
pub mod Composing
pub mod Stopping
