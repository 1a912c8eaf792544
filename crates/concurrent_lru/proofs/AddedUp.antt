-- That the counts of a cache add up: how many entries each step adds and takes, and what the counts
-- make of it.
pub mod SizesOfSteps
pub mod CountsOfSteps
pub mod CountsOfInserts
pub mod CountsOfCharges
