pub mod Uses
pub mod Descriptors
