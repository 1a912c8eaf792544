-- The seats of a shard and the words of its index: what keeps the words leading to the seats.
pub mod Places
pub mod Changes
pub mod Charges
pub mod Copies
pub mod Searches
pub mod Keys
pub mod Vacant
pub mod Replaced
