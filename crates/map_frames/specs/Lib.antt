pub mod Methods
pub mod Linked
