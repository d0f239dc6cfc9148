pub mod Fields
pub mod Constants
