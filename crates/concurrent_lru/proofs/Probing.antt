-- Buckets that are probed one after another: their marks, what they hold, and a table of them.
pub mod Circle
pub mod Runs
pub mod Marks
pub mod Gaps
pub mod Fills
pub mod Contents
pub mod Tables
