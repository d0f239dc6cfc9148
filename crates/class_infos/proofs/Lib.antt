pub mod Growing
pub mod Numbering
pub mod NoneTwice
pub mod NoneCyclic
