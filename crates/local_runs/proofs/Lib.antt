pub mod OrderLemmas
pub mod PlaceLemmas
pub mod RunLemmas
pub mod WordsLemmas
pub mod CodeLemmas
pub mod MadeLemmas
pub mod LawLemmas
