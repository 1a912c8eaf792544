-- What the slots of nodes show.
pub mod NodeWrites
pub mod PointersTied
pub mod Listings
pub mod SlotViews
pub mod ShownChanges
