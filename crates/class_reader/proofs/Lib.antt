-- `Loops` has the lemmas that loops cite: the items so far stand in front of those that are still
-- to be read. The laws
-- of class files, of the definitions alone, are those of the crate `class_laws`.
pub mod Loops
pub mod Head
pub mod Clauses
