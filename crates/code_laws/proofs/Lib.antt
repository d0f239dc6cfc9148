-- what there may be none of, signed numbers, entries of the pool, targets
pub mod Options
pub mod Signed
pub mod Entries
pub mod Targets
-- instructions
pub mod Switches
pub mod OpcodeBytes
pub mod Operands
pub mod Instructions
pub mod Places
pub mod OneOpcode
-- the parts of the attribute
pub mod Handlers
pub mod Inners
pub mod Parts
-- stack maps
pub mod MapTypes
pub mod MapEntries
pub mod MapFrames
pub mod FrameEntries
pub mod Maps
-- code, and the code of a class
pub mod Bodies
pub mod Loading
-- descriptors
pub mod FieldDescriptors
pub mod MethodDescriptors
-- what is read of some attributes
pub mod Examples
