-- what loaders answer
pub mod Outside
pub mod Stops
pub mod Loads
pub mod Placed
-- what they read
pub mod Classes
pub mod Items
