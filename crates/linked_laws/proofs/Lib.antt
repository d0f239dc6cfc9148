pub mod Lists
pub mod Classes
pub mod Ground
pub mod Types
pub mod Members
pub mod Instructions
pub mod Maps
pub mod Methods
