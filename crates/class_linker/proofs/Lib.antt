pub mod Programs
pub mod FirstFault
pub mod Told
