pub mod Tests
pub mod Lines
pub mod Numerals
pub mod Journals
