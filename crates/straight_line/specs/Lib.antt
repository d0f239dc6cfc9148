-- programs
pub mod Body
pub mod Programs
-- their runs
pub mod Runs
