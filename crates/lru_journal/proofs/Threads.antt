-- What may go from one thread to another.
pub mod TwinShared
