-- the words of a call
pub mod Invocation
-- loading
pub mod LoadProgram
pub mod MainCode
pub mod Later
pub mod CheckText
-- runs
pub mod Journal
pub mod RoundRobin
-- what a call comes to
pub mod Work
pub mod LoadWork
pub mod Delivery
pub mod Works
pub mod Call
pub mod Headline
