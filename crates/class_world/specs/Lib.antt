pub mod MemberTable
pub mod World
pub mod Hierarchy
pub mod Signatures
pub mod Parts
