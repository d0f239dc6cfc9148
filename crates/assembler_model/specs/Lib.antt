-- lines
pub mod AssemblerTerms
pub mod Mnemonics
pub mod OperationLines
pub mod AssemblerLines
-- where they stand
pub mod Blocks
pub mod AssemblerOrder
-- the constant pool
pub mod PoolEntries
pub mod PoolNeeds
pub mod AssemblerPool
-- code
pub mod InstructionBytes
pub mod CodeLines
pub mod CodeFaults
pub mod CodeBytes
-- the class
pub mod AssembledClass
