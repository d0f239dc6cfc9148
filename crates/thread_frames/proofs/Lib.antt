-- words, lists, and how frames lie in words
pub mod SpliceLemmas
pub mod LastLemmas
pub mod LayLemmas
-- frames
pub mod FrameLemmas
pub mod StateLemmas
pub mod TopLemmas
pub mod RowLemmas
pub mod StepLemmas
