pub mod Walks
pub mod Changes
pub mod Views
pub mod Lookups
