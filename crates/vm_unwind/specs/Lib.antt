-- unwinding in the definitions' own words, in parts
pub mod Parts
-- and frame by frame
pub mod Steps
-- the frame that catches, by numbers
pub mod Catching
-- and by names
pub mod Names
-- the monitor that a frame's method holds
pub mod Held
-- what a throw leaves of a thread
pub mod Outcome
