pub mod Loaders
pub mod PlacedLemmas
pub mod ItemLemmas
