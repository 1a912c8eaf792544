use Rattle.std.proofs.Common.{◌≡◌, vec_len}
use Rattle.lru_clock.proofs.clock.Cache.with_most_pins.Given as goal

abbrev pub invariant-loop : goal.invariant-loop
invariant-loop g l = vec_len l.all ≡ l.counter
