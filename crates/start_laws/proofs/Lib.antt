pub mod Changes
pub mod First
pub mod Objects
pub mod Strings
pub mod Started
