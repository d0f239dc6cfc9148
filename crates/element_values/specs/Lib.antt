-- arrays and their elements
pub mod Elements
-- what holds of them, whatever is read and written
pub mod Laws
