mod OkLemmas
mod LineNumbers
pub mod WordLemmas
mod HeadLemmas
mod SaidLemmas
mod NearLemmas
mod BlockLines
mod NoteLemmas
mod ClassLemmas
