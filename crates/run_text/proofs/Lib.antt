pub mod PrintedLemmas
pub mod WordLemmas
pub mod NumeralLemmas
pub mod ReadLemmas
