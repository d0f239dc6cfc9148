-- what contracts see
pub mod Splices
pub mod Frames
pub mod Machine
-- how frames lie in words, and steps in these
pub mod Laid
pub mod Runs
