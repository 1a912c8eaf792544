use Rattle.std.proofs.Common.{◌≡◌, ◌-◌}
use Rattle.concurrent_lru.specs.ReadyEntries.{ready_between}
use Rattle.concurrent_lru.proofs.lru_core.entries.EntriesIterator.next.Given as goal

-- only places without an entry that has a value were passed over
abbrev pub invariant-loop-self : goal.invariant-loop-self
invariant-loop-self g l = record {
  left : ready_between l.self-inside.table.now l.self-inside.next (l.self-inside.end - l.self-inside.next) ≡ l.fn.self;
  end : l.self-inside.end ≡ l.initial.self-inside.end;
}

abbrev pub decreases-loop-self : goal.decreases-loop-self
decreases-loop-self g l = l.self-inside.end - l.self-inside.next
