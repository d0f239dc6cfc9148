-- a linked world with its tables
pub mod Opened
