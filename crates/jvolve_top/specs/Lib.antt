-- what code reads
pub mod Words
pub mod Programs
pub mod Loads
-- what it does
pub mod Outside
pub mod Delivers
pub mod Calls
