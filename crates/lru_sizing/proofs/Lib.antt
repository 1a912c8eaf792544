-- The lemmas of sizing.
pub mod UsesSince
pub mod HitsByWeight
pub mod SumTrees
pub mod Marks
pub mod Passes
pub mod Curves
pub mod Estimates
pub mod Replays
