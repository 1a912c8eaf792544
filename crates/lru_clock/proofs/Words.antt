-- The words of an index: what is known of them, walks along them, and what a change does to them.
pub mod HolderKnowsWords
pub mod Cells
pub mod Walks
pub mod Holes
pub mod Homes
