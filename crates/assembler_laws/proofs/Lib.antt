mod ListLemmas
mod TextLemmas
mod NumberLemmas
mod TermLemmas
mod WordLemmas
mod OperationLemmas
mod SaidLemmas
mod EntryLemmas
mod IndexLemmas
mod PoolLemmas
mod NeedLemmas
mod ValueLemmas
mod MethodLemmas
mod LineLemmas
mod PartLemmas
mod FitLemmas
mod FaultLemmas
mod KnownLemmas
mod CodeLemmas
mod MemberLemmas
pub mod ProfileLemmas
mod RoomLemmas
mod ItemLemmas
mod SizeLemmas
pub mod ShortLemmas
