-- fields of objects
pub mod Fields
