-- what divisions come to
pub mod Dividing
