use Rattle.std.proofs.Common.{◌≡◌, ◌<◌, length}
use Rattle.concurrent_lru.specs.Probing.Probes.{marks_of, run_at, end_at}
use Rattle.concurrent_lru.proofs.node_table.probes.find_empty.Given as goal

abbrev pub invariant-loop-at : goal.invariant-loop-at
invariant-loop-at g l = record {
  within : l.at < length l.buckets;
  end : end_at (marks_of l.buckets) l.from ≡ end_at (marks_of l.buckets) l.at;
}

abbrev pub decreases-loop-at : goal.decreases-loop-at
decreases-loop-at g l = length (run_at (marks_of l.buckets) l.at)
