-- What a caller that found no entry without the lock must do.
use Rattle.std.specs.Prelude.{⊤}
use Rattle.lru_clock.specs.Pins.{PinOf}
use Rattle.lru_clock.specs.declared.shard.Turn.{Turn}
use Rattle.lru_clock.specs.declared.shard.Turn.TheVariants as turn

-- P holds of the pin, if the entry was found after all
abbrev pub IfHit : {K V F : Type 0} → Turn K V F → (PinOf K V → Type 0) → Type 0
IfHit (turn.Make t) P = ⊤
IfHit (turn.Hit found) P = P found.pin
