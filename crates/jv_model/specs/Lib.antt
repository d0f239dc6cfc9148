-- words for what may fail, and how much there may be
pub mod Partial
pub mod Fallible
pub mod Limits
pub mod Refusal
-- texts
pub mod Lines
pub mod ModifiedUtf8
pub mod Utf16
-- class files
pub mod ClassData
pub mod ConstantPool
pub mod ClassBytes
pub mod ClassLimits
pub mod Profile
pub mod Input
pub mod ClassReading
-- code
pub mod Descriptors
pub mod Operand
pub mod Instruction
pub mod StackForms
pub mod Flow
pub mod Code
pub mod LoadedClass
-- runs and calls
pub mod Journal
pub mod Updates
pub mod End
pub mod Status
pub mod Outside
