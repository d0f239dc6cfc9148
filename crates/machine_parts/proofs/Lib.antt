-- a small machine
pub mod Computed
-- the operands of frames
pub mod Operands
-- steps that stay in their frame
pub mod Steps
