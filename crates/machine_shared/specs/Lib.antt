-- what threads share
pub mod Shared
-- what holds of it, whatever is read and written
pub mod Laws
