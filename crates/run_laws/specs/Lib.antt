-- Runs
pub mod Kept
pub mod Keeps
pub mod Seam
-- reach order
pub mod Reached
pub mod Worklist
pub mod Laws
