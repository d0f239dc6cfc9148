pub mod Literals
pub mod Growing
