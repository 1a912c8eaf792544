use Rattle.std.proofs.Common.{◌≡◌, ◌-◌, ◌*◌}
use Rattle.lru_clock.specs.Evictions.{by_hand, places_of}
use Rattle.lru_clock.proofs.Evicting.{Leads}
use Rattle.lru_clock.proofs.clock_core.Core.evict_by_hand.Given as goal

-- no entry has left, and what is left of the run starts from the order as it is
abbrev pub invariant-loop : goal.invariant-loop
invariant-loop g l = record {
  seats : l.state.seats ≡ l.fn.state.seats;
  ran : Leads (by_hand l.fn.state.seats l.is_main (4 * places_of l.fn.state.seats)) (by_hand l.fn.state.seats l.is_main (4 * places_of l.fn.state.seats - l.counter)) l.fn.state.order l.state.order l.fn.looks.made l.looks.made;
}
