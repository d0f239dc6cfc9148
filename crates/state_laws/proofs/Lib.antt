pub mod Lists
pub mod Changes
pub mod Going
pub mod Locals
pub mod Families
pub mod Calls
pub mod Steps
