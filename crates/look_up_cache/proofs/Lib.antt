-- the last item that passes a test
pub mod Last
-- layouts of the definitions
pub mod Chains
pub mod Layouts
-- look-up
pub mod Rows
pub mod Named
pub mod Standing
-- a cache
pub mod Kept
