-- threads
pub mod Threads
-- what holds of them
pub mod Laws
