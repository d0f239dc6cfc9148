pub mod Heads
pub mod Sections
pub mod Assembles
