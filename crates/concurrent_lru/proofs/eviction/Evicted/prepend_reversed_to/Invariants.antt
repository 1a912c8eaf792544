use Rattle.std.proofs.Common.{◌≡◌, ◌++◌, reverse}
use Rattle.concurrent_lru.specs.Chain.{chain_from, AreReady}
use Rattle.concurrent_lru.proofs.eviction.Evicted.prepend_reversed_to.Given as goal

abbrev pub invariant-loop-chain : goal.invariant-loop-chain
invariant-loop-chain g l = record {
  ready : AreReady (chain_from l.chain);
  ready_so_far : AreReady (chain_from l.first);
  turned : reverse (chain_from l.chain) ++ chain_from l.first ≡ reverse (chain_from l.initial.chain) ++ chain_from l.initial.first;
}
