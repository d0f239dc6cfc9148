pub mod Labels
pub mod Places
pub mod Names
pub mod Faults
