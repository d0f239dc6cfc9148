-- programs
pub mod IntOperation
pub mod Instruction
pub mod OperandStack
pub mod StraightLine
-- the machine that runs them
pub mod Effect
pub mod Machine
