-- A chain of evicted entries may go to another thread, where its keys and values may.
use denote.Param.Send.{IsSend, IsSync, sendable, view_send}
use denote.Param.SendFields.{declared_send}
use denote.RattleType.{RattleType}
use Rattle.std.proofs.Crossing.{crosses}
use Rattle.concurrent_lru.proofs.Threads.CacheSent.{node_send}
use Rattle.concurrent_lru.specs.contracts.eviction.Evicted as evicted
use Rattle.concurrent_lru.specs.contracts.eviction.Evicted.TheInside as evicted_inside
use Rattle.concurrent_lru.specs.contracts.node_table.Node as node

module _ (K V : RattleType) (key : IsSend K) (value : IsSend V) (shared : IsSync V) where
  -- The first node is Send.
  first_send : IsSend (node.the_row K V)
  first_send = node_send K V key value shared

  pub evicted_send : IsSend (evicted.the_row K V)
  evicted_send = view_send (evicted_inside.the_row K V) _ _ _ _ (declared_send (evicted_inside.the_type K V) (search (sendable, crosses, first_send) depth 12))
