pub mod Classes
pub mod Components
pub mod Frames
pub mod Assigned
pub mod Replaced
