-- The tallies of a twin and the receipts in them.
pub mod Positions
pub mod StepsOfCell
