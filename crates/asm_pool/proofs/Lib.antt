pub mod NearLemmas
pub mod NeedLemmas
mod FillLemmas
