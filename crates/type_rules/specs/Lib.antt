pub mod Types
pub mod Frames
