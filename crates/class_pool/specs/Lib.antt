pub mod ParameterTypes
