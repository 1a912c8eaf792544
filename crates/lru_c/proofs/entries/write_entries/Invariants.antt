use Rattle.std.proofs.Common.{◌≡◌, ◌≤◌, ◌++◌, length, map, take, drop}
use Rattle.concurrent_lru.specs.ReadyEntries.{ListsReady, entry_of_ref}
use Rattle.lru_c.specs.Entries.{entry_told, without_hint}
use Rattle.lru_c.proofs.entries.write_entries.Given as goal

-- the buffer begins with the entries so far, and the iterator has the others
abbrev pub invariant-loop-entry : goal.invariant-loop-entry
invariant-loop-entry g l = record {
  can_next : (goal.iterator-loop-entry g).can_next l.entry-iterator;
  finite : (goal.iterator-loop-entry g).is_finite l.entry-iterator;
  listed : ListsReady l.fn.state.cache (map entry_of_ref l.yielded ++ l.entry-iterator);
  written : map without_hint (take l.written l.out) ≡ map entry_told (map entry_of_ref l.yielded);
  rest : drop l.written l.out ≡ drop l.written l.fn.out;
  count : l.written ≡ length l.yielded;
  room : l.written ≤ length l.out;
  whole : length l.out ≡ length l.fn.out;
}
