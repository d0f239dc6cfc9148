pub mod BlockLemmas
pub mod UnitLemmas
pub mod FaultLemmas
pub mod EntryLemmas
pub mod PoolLemmas
