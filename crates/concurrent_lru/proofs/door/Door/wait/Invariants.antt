use Rattle.std.specs.Prelude.{◌≡◌}
use Rattle.std.specs.Sync.Mutex.{mutex_guard_value}
use Rattle.concurrent_lru.proofs.door.Door.wait.Given as goal

abbrev pub invariant-loop : goal.invariant-loop
invariant-loop g l =
    (goal.iterator-loop g).can_next l.iterator' × (goal.iterator-loop g).is_finite l.iterator'
    × (l.asleep.1.key ≡ l.key) × (l.asleep.1.charge ≡ l.charge) × (mutex_guard_value l.asleep.0 ≡ l.asleep.1.left)
