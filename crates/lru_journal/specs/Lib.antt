-- The definitions that the contracts of the journal and the twin use.
pub mod Values
pub mod Records
pub mod Replay
pub mod Journals
pub mod Tallies
pub mod Pins
pub mod Calls
