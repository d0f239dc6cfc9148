pub mod Firsts
pub mod Failures
pub mod Visits
pub mod Rules
pub mod Typings
