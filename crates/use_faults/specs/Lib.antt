pub mod References
pub mod Wrong
pub mod Finals
