pub mod Numbers
pub mod MapPlaces
pub mod Caught
pub mod Sound
pub mod StepRule
pub mod Described
pub mod Entering
pub mod Leaving
pub mod Members
pub mod Passing
pub mod Switches
pub mod Covering
pub mod MethodFrames
mod Watching
mod SameTypes
