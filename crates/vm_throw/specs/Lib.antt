-- rows of exception tables, and the handler in the code of a method
pub mod Handlers
