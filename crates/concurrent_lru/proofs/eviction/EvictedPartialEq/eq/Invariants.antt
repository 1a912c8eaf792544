use Rattle.std.proofs.Common.{◌≡◌, length}
use Rattle.concurrent_lru.specs.Chain.{are_same}
use Rattle.concurrent_lru.proofs.eviction.EvictedPartialEq.eq.Given as goal

abbrev pub invariant-loop-gone : goal.invariant-loop-gone
invariant-loop-gone g l = are_same g.K.PartialEq.eq g.V.PartialEq.eq l.left l.right ≡ are_same g.K.PartialEq.eq g.V.PartialEq.eq l.initial.left l.initial.right

abbrev pub decreases-loop-gone : goal.decreases-loop-gone
decreases-loop-gone g l = length l.left
