-- The lemmas of the journal and the twin, in folders by subject.
pub mod Replays
pub mod Receipts
pub mod Threads
