pub mod Rows
pub mod Tables
pub mod Dispatch
pub mod Linked
