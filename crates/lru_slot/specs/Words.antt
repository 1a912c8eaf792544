-- The words of a slot, as the kit defines them.
pub use Rattle.counted_slot.specs.Counting.{readers, IsTurn, Gains}
