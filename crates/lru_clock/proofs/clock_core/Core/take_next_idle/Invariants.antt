use Rattle.std.proofs.Common.{◌≡◌}
use Rattle.lru_clock.proofs.clock_core.Core.take_next_idle.Given as goal

-- no entry has left
abbrev pub invariant-loop-place : goal.invariant-loop-place
invariant-loop-place g l = record {
  state : l.state ≡ l.fn.state;
  next : l.next ≡ l.fn.next;
}
