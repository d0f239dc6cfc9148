-- the field of a name is that of its place
pub mod Named
-- reading and writing
pub mod Statics
