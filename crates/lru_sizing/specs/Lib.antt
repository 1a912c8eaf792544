-- The definitions that the contracts of sizing use.
pub mod ReuseWeights
pub mod HitsByWeight
pub mod SumTrees
pub mod Marks
pub mod RefusedTraces
pub mod Curves
pub mod Estimates
pub mod Replays
