-- The hash table of nodes, with linear probing.
pub mod Cycle
pub mod Probes
pub mod Entries
pub mod Gaps
pub mod OpenTable
