-- How far an insert over the key's entry has come.
use Rattle.std.specs.Prelude.{ℕ, ⊤, Option, Some}
use Rattle.logbook.specs.Pages.{Book}
use Rattle.lru_clock.specs.declared.clock_core.holds.HeldOver.{HeldOver}
use Rattle.lru_clock.specs.declared.clock_core.holds.HeldOver.TheVariants as over
use Rattle.lru_clock.specs.declared.clock_core.replacements.Way.{Way}
use Rattle.lru_clock.specs.declared.clock_core.replacements.Way.TheVariants as way

module _ {K V F : Type 0} where
  -- the entry that left to make way, if one did
  abbrev pub left_by : Way K V F → Option (Option Book)
  left_by (way.Clear left) = left
  left_by (way.Blocked left) = Some left

  -- P holds of the place of the new entry and of the one that left, if the new one was stored
  abbrev pub IfHeld : HeldOver K V F → (ℕ → Option (Option Book) → Type 0) → Type 0
  IfHeld (over.Held p left) P = P p left
  IfHeld (over.Blocked left) P = ⊤
