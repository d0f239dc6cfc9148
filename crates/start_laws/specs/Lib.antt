pub mod Startable
pub mod Laws
