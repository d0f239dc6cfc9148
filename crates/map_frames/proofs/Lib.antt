-- what frames of a map are, by number and by name
pub mod Arguments
pub mod Places
pub mod LinkedFrames
