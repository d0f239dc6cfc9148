pub mod LoadLemmas
pub mod ProgramLemmas
pub mod OutcomeLemmas
