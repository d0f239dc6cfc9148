-- values in words
pub mod Values
-- one object of a heap changes
pub mod Changing
-- fields are read and written
pub mod Objects
