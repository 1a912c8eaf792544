-- The idle order as links among nodes.
pub mod Links
pub mod Appending
pub mod TakingOut
