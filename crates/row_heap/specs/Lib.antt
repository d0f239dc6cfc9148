pub mod Table
pub mod RowsOf
pub mod Placing
pub mod Found
pub mod Forwards
pub mod Tables
