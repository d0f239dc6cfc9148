pub mod Needs
pub mod Near
