pub mod StepLemmas
pub mod BlockLemmas
pub mod StatementLemmas
pub mod ManifestLemmas
