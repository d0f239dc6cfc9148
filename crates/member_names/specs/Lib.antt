-- names of numbers
pub mod Names
-- what look-up by them gives
pub mod Laws
