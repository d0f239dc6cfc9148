-- texts, lines and words
pub mod LineFaults
pub mod Words
pub mod Numerals
-- what a user is told, and the journal
pub mod CauseWords
pub mod StatusText
pub mod JournalText
