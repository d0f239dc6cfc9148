-- an object that changes
pub mod Changed
-- elements of arrays
pub mod Elements
