pub mod Verified
pub mod Laws
