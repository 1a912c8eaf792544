-- Lists of numbers, lists as maps, and maps after a change.
pub mod DistinctNumbers
pub mod Members
pub mod DistinctEntries
pub mod Removals
pub mod SlotsAsMaps
