use Rattle.concurrent_lru.specs.Probing.Probes.{marks_of, IsReached}
use Rattle.concurrent_lru.specs.Probing.Entries.{AreApart}
use Rattle.concurrent_lru.proofs.Probing.Contents.Copies.{IsCopied}
use Rattle.concurrent_lru.proofs.node_table.probes.copy_all.Given as goal

-- the entries of the buckets before this one have been copied
abbrev pub invariant-loop-bucket : goal.invariant-loop-bucket
invariant-loop-bucket g l = record {
  reached : IsReached (marks_of l.to);
  apart : AreApart l.to;
  copied : IsCopied l.from l.to l.bucket-index;
}
