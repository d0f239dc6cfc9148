pub mod Faults
pub mod Parts
pub mod Sections
pub mod Entries
pub mod Pools
