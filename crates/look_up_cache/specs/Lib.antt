-- what names lead to
pub mod Targets
-- what stands for it
pub mod Words
pub mod Found
pub mod Slots
-- what is kept of it
pub mod Kept
