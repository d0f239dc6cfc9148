pub mod Items
pub mod Signs
pub mod Blocks
pub mod Opened
pub mod Heads
pub mod Statements
