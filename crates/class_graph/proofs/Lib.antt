pub mod Passing
pub mod Sets
pub mod Traces
pub mod Walks
pub mod Steps
pub mod Once
