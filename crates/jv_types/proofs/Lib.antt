pub mod SplitLemmas
pub mod LineLemmas
pub mod WordLemmas
pub mod Tables
pub mod Rows
pub mod FrameRows
