pub mod Runnable
pub mod Deeds
pub mod Laws
