-- what lies on top
pub mod Operands
