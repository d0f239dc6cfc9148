pub mod Constants
pub mod Outcome
pub mod Families
pub mod Steps
