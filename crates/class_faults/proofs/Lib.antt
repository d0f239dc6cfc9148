pub mod Appending
pub mod Firsts
mod Supported
pub mod WrongMethods
pub mod Least
pub mod SameLeast
mod TextUses
