-- runs
pub mod Journal
pub mod RoundRobin
