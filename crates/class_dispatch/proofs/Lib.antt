pub mod Steps
pub mod Named
pub mod Selecting
pub mod Linked
