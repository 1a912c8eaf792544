-- The memory of nodes: cells under keys, whether they lie apart, and on which threads they may be.
pub mod CellSlots
pub mod CellsShared
pub mod CellsSent
pub mod CellsApart
pub mod Walks
