-- types behind brackets, parameters one by one, by name and by number
pub mod Descriptors
pub mod Arrays
pub mod Parameters
