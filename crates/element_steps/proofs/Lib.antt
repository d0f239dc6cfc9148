-- arrays of a heap
pub mod Arrays
-- what is found at an index
pub mod Finding
-- arraylength
pub mod Counting
-- array loads
pub mod Loading
-- array stores
pub mod Storing
