pub mod Counting
pub mod Selecting
pub mod Keeping
pub mod Meaning
