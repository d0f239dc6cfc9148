-- descriptors, and what an index names
pub mod TypeReading
pub mod MappedInstruction
pub mod Names
-- opcodes
pub mod Entries
pub mod Formats
pub mod Opcodes
-- places in code, and frames of a stack map
pub mod CodePlaces
pub mod FirstLocals
pub mod StackMapEntries
pub mod StackMaps
-- which bytes are those of which code
pub mod SpellsOperands
pub mod SpellsInstructions
pub mod SpellsFrames
pub mod SpellsCode
-- reading it, up to the first refusal
pub mod OperandReading
pub mod InstructionReading
pub mod CodeShape
pub mod CodeReading
-- how the two belong to each other
pub mod Laws
