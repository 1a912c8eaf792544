-- What a caller that cannot keep a ticket or a pin must do.
use Rattle.std.specs.Prelude.{◌≡◌, Bool, true, false}
use Rattle.std.specs.List.{list_any}
use Rattle.lru_clock.specs.Makings.{IsWith, is_of}
use Rattle.lru_clock.specs.declared.clock_core.makings.Begun.{Begun}
use Rattle.lru_clock.specs.declared.clock_core.makings.Begun.TheVariants as begun
use Rattle.lru_clock.specs.declared.shard_state.ShardState.{ShardState}

module _ {K V : Type 0} (E : K → K → Bool) (k : K) (old : ShardState K) where
  -- the key's entry was found; or its value is being made; or the caller makes it
  abbrev pub IsBegun : Begun V → ShardState K → Type 0
  IsBegun (begun.Hit hold value) new = new ≡ old
  IsBegun begun.Wait new = (list_any (is_of E k) old.makings ≡ true) × (new ≡ old)
  IsBegun (begun.Make n) new =
      (list_any (is_of E k) old.makings ≡ false)
      × (new ≡ record old { makings = new.makings })
      × ((copy : K) × (E copy k ≡ true) × IsWith old.makings copy n new.makings)
