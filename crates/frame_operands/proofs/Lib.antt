-- values on top of operands
pub mod Tops
-- threads whose newest frame changes
pub mod Changes
