-- which monitor a lock word is
pub mod Words
-- the monitors of a heap's objects
pub mod Locks
-- what holds of them, whatever the word
pub mod Laws
