-- what is verified
pub mod Verified
pub mod Outcome
-- a method and its code
pub mod FrameNumbers
pub mod Methods
pub mod Environments
pub mod Codes
-- its instructions
pub mod Cover
pub mod Visits
pub mod Passed
pub mod Typings
pub mod Watch
