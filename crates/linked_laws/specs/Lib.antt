-- code of which all classes are there
pub mod Operands
pub mod Code
-- worlds that were linked
pub mod Worlds
pub mod Laws
