pub mod Cuts
pub mod Faults
pub mod Pages
