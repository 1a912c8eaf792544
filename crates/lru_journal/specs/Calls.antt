-- What is recorded of the answers of a twin's calls.
use Rattle.std.specs.Prelude.{ℕ, Option, Some, None}
use Rattle.lru_journal.specs.Pins.{TwinPin}
use Rattle.lru_journal.specs.declared.pin.Started.{Started}
use Rattle.lru_journal.specs.declared.pin.Started.TheVariants as started
use Rattle.lru_journal.specs.declared.record.Told.{Told}
use Rattle.lru_journal.specs.declared.record.Told.TheVariants as told

module _ {V : Type 0} where
  abbrev pub twin_pin : ℕ → V → TwinPin V
  twin_pin stamp value = record { stamp = stamp; value = value }

  -- what is recorded of an answer to `begin` or `poll`, and to `get`
  abbrev pub told_of_started : Started V → Told
  told_of_started (started.Make s) = told.Make s
  told_of_started (started.Wait s) = told.Wait s
  told_of_started (started.Hit p) = told.Hit p.stamp

  abbrev pub told_of_pin : Option (TwinPin V) → Told
  told_of_pin None = told.Missed
  told_of_pin (Some p) = told.Found p.stamp
