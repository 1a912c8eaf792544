use Rattle.std.proofs.Common.{◌≡◌}
use Rattle.lru_clock.specs.SeatChanges.{AddsVacant}
use Rattle.lru_clock.proofs.clock_core.Core.grow_to.Given as goal

-- only vacant places were added, and room for them in the order
abbrev pub invariant-loop : goal.invariant-loop
invariant-loop g l = record {
  same : l.state ≡ record l.fn.state { seats = l.state.seats; order = l.state.order };
  seats : AddsVacant l.fn.state.seats l.state.seats;
}
