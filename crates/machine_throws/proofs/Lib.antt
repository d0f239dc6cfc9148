-- operands that the definitions take
pub mod Found
-- steps that leave another value in place of operands
pub mod Replacing
