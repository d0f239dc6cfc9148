pub mod Names
pub mod Fields
pub mod Constants
pub mod Objects
pub mod Replacements
pub mod Signatures
pub mod Calls
pub mod Constructors
