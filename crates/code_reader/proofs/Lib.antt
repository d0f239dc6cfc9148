pub mod Table
pub mod Offsets
pub mod Counts
pub mod InstructionLists
pub mod MapTables
pub mod Starts
pub mod FrameLists
pub mod Stages
pub mod Clauses
pub mod FirstMethod
mod Nearness
