pub mod Signatures
pub mod Filling
