use Rattle.std.proofs.Common.{◌≡◌, []}
use Rattle.concurrent_lru.proofs.Entries.HeldTaken.{AreHeldBetween, TakesSome}
use Rattle.concurrent_lru.proofs.table.Table.take_each_held.Given as goal

abbrev pub invariant-loop-number : goal.invariant-loop-number
invariant-loop-number g l = record {
  idle : l.self.idle ≡ [];
  work : l.self.work ≡ l.fn.self.work;
  places : AreHeldBetween l.self l.number l.number-end;
  taken : TakesSome l.fn.self.held l.self.held l.taken;
}
