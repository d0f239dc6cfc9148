pub mod LabelLemmas
pub mod PlaceLemmas
mod SizeLemmas
pub mod FaultLemmas
mod NameLemmas
