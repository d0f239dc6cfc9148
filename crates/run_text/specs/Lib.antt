pub mod Following
pub mod Digits
pub mod JournalRead
