pub mod Digests
pub mod Hmac
pub mod Taken
