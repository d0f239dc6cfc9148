-- what contracts see
pub mod Limits
pub mod Threads
pub mod Machine
-- how threads are kept
pub mod Kept
