-- Caches side by side.
pub mod OneOfMany
pub mod ReadOfOne
pub mod FirstOfMany
