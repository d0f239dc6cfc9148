-- a thread that goes on
pub mod Going
-- its next instruction
pub mod Deeds
