-- the law of unwinding
mod Unwinding
-- the frame that catches
mod Searching
-- flags of methods
mod Flags
-- methods and frames by their names
mod Naming
-- unwinding frame by frame
mod Stepwise
-- what a thread is once a throw is done
mod Outcomes
