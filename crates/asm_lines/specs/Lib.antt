pub mod Words
pub mod Terms
pub mod Told
pub mod Digits
pub mod Forms
pub mod LineForms
pub mod NumberedLines
