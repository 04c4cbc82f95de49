pub mod Header
pub mod Bind
pub mod Pdu
pub mod Stream
pub mod Fill
pub mod Reader
