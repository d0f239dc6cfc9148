pub mod FaultLemmas
pub mod BlockLemmas
pub mod TextLemmas
pub mod StatementLemmas
pub mod KindLemmas
pub mod LineLemmas
pub mod LawLemmas
pub mod LengthLemmas
