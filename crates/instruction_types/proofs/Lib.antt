-- classes, tests, operands, reads and returns, by number and by name
pub mod Found
pub mod Tests
pub mod Stacks
pub mod FirstReads
pub mod Results
pub mod Puts
pub mod Groups
pub mod Pushes
