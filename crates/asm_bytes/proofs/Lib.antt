pub mod TargetLemmas
mod FrameLemmas
mod CodeLemmas
