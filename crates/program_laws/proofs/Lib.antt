pub mod Typed
pub mod Verified
