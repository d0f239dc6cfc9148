-- references
pub mod Ids
-- values in words
pub mod Words
-- objects
pub mod Objects
