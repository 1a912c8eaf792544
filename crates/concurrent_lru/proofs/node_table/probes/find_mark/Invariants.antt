use Rattle.std.proofs.Common.{◌≡◌, ◌<◌, length}
use Rattle.concurrent_lru.specs.Probing.Probes.{marks_of, run_at, walk_at}
use Rattle.concurrent_lru.proofs.node_table.probes.find_mark.Given as goal

-- all that is left of the walk lies ahead
abbrev pub invariant-loop-mark : goal.invariant-loop-mark
invariant-loop-mark g l = record {
  within : l.at < length l.buckets;
  walk : walk_at (marks_of l.buckets) l.mark l.from ≡ walk_at (marks_of l.buckets) l.mark l.at;
}

abbrev pub decreases-loop-mark : goal.decreases-loop-mark
decreases-loop-mark g l = length (run_at (marks_of l.buckets) l.at)
