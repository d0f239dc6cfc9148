pub mod Environment
pub mod Outcome
pub mod Wanted
pub mod Locals
pub mod Groups
