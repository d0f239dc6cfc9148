-- what loading is
pub mod Loading
pub mod Reads
-- the classes that items bring
pub mod LoadClasses
pub mod LoadItems
