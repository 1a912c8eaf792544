use Rattle.std.proofs.Common.{◌≡◌, ℕ, vec_len}
use Rattle.concurrent_lru.specs.Probing.Probes.{marks_of, IsEmptyAt}
use Rattle.concurrent_lru.proofs.node_table.probes.empty_buckets.Given as goal

abbrev pub invariant-loop-i : goal.invariant-loop-i
invariant-loop-i g l = record {
  len : vec_len l.buckets ≡ l._i;
  vacant : (k : ℕ) → IsEmptyAt (marks_of l.buckets.items) k;
}
