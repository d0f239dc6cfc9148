-- classes by their names, and names without a class
mod Missing
-- exception tables of methods
pub mod Tables
