-- classes that are thrown
pub mod Names
-- what a step comes to
pub mod Outcomes
