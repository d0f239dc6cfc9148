pub mod Parts
pub mod Rooms
pub mod Moves
-- steps
pub mod Steps
