pub mod NumeralLemmas
pub mod RangeLemmas
pub mod WordLemmas
pub mod DotLemmas
pub mod RowLemmas
pub mod ToldLemmas
pub mod HexadecimalLemmas
pub mod BarLemmas
