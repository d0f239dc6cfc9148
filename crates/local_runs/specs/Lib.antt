pub mod Runs
pub mod Places
pub mod Lent
pub mod Law
