use Rattle.std.proofs.Common.{◌≡◌, ◌-◌, ◌<◌, length}
use Rattle.concurrent_lru.specs.Probing.Cycle.{steps}
use Rattle.concurrent_lru.specs.Probing.Probes.{marks_of}
use Rattle.concurrent_lru.specs.Probing.Entries.{AreApart, IsSame, count}
use Rattle.concurrent_lru.specs.Probing.Gaps.{IsGap}
use Rattle.concurrent_lru.proofs.node_table.probes.close_gap.Given as goal

-- the entries before `at` have been dealt with
abbrev pub invariant-loop-buckets : goal.invariant-loop-buckets
invariant-loop-buckets g l = record {
  hole : l.hole < length l.buckets;
  at : l.at < length l.buckets;
  gap : IsGap (length l.buckets) (marks_of l.buckets) l.from l.hole l.at;
  same : IsSame l.initial.buckets l.buckets;
  apart : AreApart l.initial.buckets → AreApart l.buckets;
  count : count l.buckets ≡ count l.initial.buckets;
}

abbrev pub decreases-loop-buckets : goal.decreases-loop-buckets
decreases-loop-buckets g l = length l.buckets - steps (length l.buckets) l.from l.at
