-- classes and types of linked operands, by number
pub mod LinkedTypes
pub mod Rules
pub mod OwnFields
pub mod PushedConstants
pub mod NamedTypes
pub mod Replaced
pub mod NewObjects
pub mod LinkedMethods
pub mod Called
pub mod ConstructorCalls
mod MadeAt
