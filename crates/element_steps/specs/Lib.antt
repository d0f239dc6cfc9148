-- arrays that operands name
pub mod Arrays
