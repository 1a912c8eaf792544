-- The cache for one owner may be sent between threads, where its keys and values may.
use denote.Hole.FixSend.{fix_send, fix_sync, Sends, Syncs}
use denote.Memory.{part_of, raw_all}
use denote.Param.Send.{IsSend, IsSync, cell_keyless, owning_send, sendable, struct_sync_at, view_send, view_sync}
use denote.Param.SendFields.{declared_send, declared_sync, owner_send}
use denote.RattleType.{RattleType}
use denote.Struct.Owning.{shape, to}
use Rattle.std.specs.declared.hash.Hash as hash
use Rattle.std.specs.declared.cmp.PartialEq as partial_eq
use Rattle.std.specs.declared.clone.Clone as clone
use Rattle.std.proofs.Crossing.{crosses, frees}
use Rattle.std.proofs.MapsCrossing.{HashMap-send}
use Rattle.std.proofs.alloc.Global.TheSendSync as global_sent
use Rattle.std.specs.contracts.alloc.Global as global
use Rattle.std.specs.contracts.impls.GlobalAllocator.TheImpl as allocator
use Rattle.slab.specs.contracts.Slab as slab
use Rattle.slab.specs.contracts.Slab.TheInside as slab_inside
use Rattle.concurrent_lru.specs.declared.share.Sharing as sharing
use Rattle.concurrent_lru.specs.contracts.node_table.Node as node
use Rattle.concurrent_lru.specs.contracts.node_table.Nodes as nodes
use Rattle.concurrent_lru.specs.contracts.node_table.Nodes.TheInside as nodes_inside
use Rattle.concurrent_lru.specs.contracts.node_table.links.Order as order
use Rattle.concurrent_lru.specs.contracts.node_table.memory.At as at
use Rattle.concurrent_lru.specs.contracts.node_table.memory.Memory as memory
use Rattle.concurrent_lru.specs.contracts.node_table.open_table.OpenTable as open_table
use Rattle.concurrent_lru.specs.contracts.node_table.open_table.OpenTable.TheInside as open_table_inside
use Rattle.concurrent_lru.specs.contracts.node_table.probes.Bucket as entry
use Rattle.concurrent_lru.specs.contracts.node_table.slots.Slots as slots
use Rattle.concurrent_lru.specs.contracts.lru_core.State as state
use Rattle.concurrent_lru.specs.contracts.lru_core.State.TheInside as state_inside
use Rattle.concurrent_lru.specs.contracts.share.Stored as stored
use Rattle.concurrent_lru.specs.contracts.share.Stored.TheInside as stored_inside
use Rattle.concurrent_lru.specs.contracts.table.Table.TheInside as table
use Rattle.concurrent_lru.specs.contracts.work.Work as work
use Rattle.concurrent_lru.proofs.Memory.CellsSent.{Memory-send, Memory-sync}
use Rattle.concurrent_lru.proofs.node_table.Phase.TheSendSync as phase_sent
use Rattle.concurrent_lru.proofs.node_table.memory.At.TheSendSync as at_sent

-- The count of the writes of an order owns nothing, so it is Send.
work_send : IsSend work.the_row
work_send = owning_send work.the_type (search sendable, tt) (λ d. tt) (λ k x w. tt)

-- A `&` to the count is a share of what owns nothing, so it is Sync.
work_sync : IsSync work.the_row
unfolding part_of
work_sync = record { shared = λ d b o κ. λ q vs. (cell_keyless q (raw_all work.the_row.mir) vs b o, work_send.owned d vs) }

module _ (K V : RattleType) (key : IsSend K) (value : IsSend V) (shared : IsSync V) where
  -- What stands for a node where its type names itself is Send, as its layer is over any such.
  hole_send : IsSend (node.the_hole K V)
  hole_send = fix_send (node.the_ring K V)
      (node.by_members K V (Sends (node.the_ring K V)) record { send = λ h all. declared_send (node.the_layer K V h) (search (sendable, crosses, phase_sent.the_send, all) depth 24) })
      (node.the_member K V)

  -- A node is Send.
  pub node_send : IsSend (node.the_row K V)
  node_send = declared_send (node.the_type K V) (search (sendable, crosses, phase_sent.the_send, hole_send) depth 24)

  -- The pointers in a slab are Send.
  pointers_send : IsSend (slab.the_row (at.the_row (node.the_row K V)) global.the_row allocator.ghosts)
  pointers_send = view_send (slab_inside.the_row (at.the_row (node.the_row K V)) global.the_row allocator.ghosts) _ _ _ _
      (declared_send (slab_inside.the_type (at.the_row (node.the_row K V)) global.the_row allocator.ghosts) (search (sendable, crosses, at_sent.the_send) depth 12))

  -- The table by hash is Send, as its entries are.
  entry_send : IsSend (entry.the_row (at.the_row (node.the_row K V)))
  entry_send = declared_send (entry.the_type (at.the_row (node.the_row K V))) (search (sendable, crosses, at_sent.the_send) depth 12)

  by_hash_send : IsSend (open_table.the_row (at.the_row (node.the_row K V)))
  by_hash_send = view_send (open_table_inside.the_row (at.the_row (node.the_row K V))) _ _ _ _
      (declared_send (open_table_inside.the_type (at.the_row (node.the_row K V))) (search (sendable, crosses, entry_send, at_sent.the_send) depth 12))

  -- The memory of the nodes is Send.
  memory_send : IsSend (memory.the_row (node.the_row K V) global.the_row allocator.ghosts)
  memory_send = Memory-send (node.the_row K V) global.the_row allocator.ghosts node_send frees

  -- The slots of a cache are Send.
  slots_send : IsSend (slots.the_row K V)
  slots_send = declared_send (slots.the_type K V) (search (sendable, crosses, global_sent.the_send, pointers_send, by_hash_send, memory_send, work_send) depth 12)

  -- The order of the idle ones is Send.
  order_send : IsSend (order.the_row K V)
  order_send = declared_send (order.the_type K V) (search (sendable, crosses, slots_send) depth 12)

  -- The nodes of a cache are Send.
  pub nodes_send : IsSend (nodes.the_row K V)
  nodes_send = view_send (nodes_inside.the_row K V) _ _ _ _
      (owner_send (nodes_inside.the_type K V) (search (sendable, crosses, order_send, work_send) depth 12) (λ d. tt) (λ k x w. (((tt, (tt, (tt, (tt, tt)))), tt), (tt, tt))))

  module _ (h : hash.Ghosts K.Denot) (e : partial_eq.Ghosts K.Denot) (c : clone.Ghosts K.Denot) where
    -- The entries of a cache are Send.
    table_send : IsSend (table.the_row K V h e c)
    table_send = declared_send (table.the_type K V h e c) (search (sendable, crosses, HashMap-send, nodes_send) depth 12)

module _ (K V : RattleType) (key : IsSync K) (value : IsSend V) (shared : IsSync V) where
  -- What stands for a node where its type names itself is Sync, as its layer is over any such.
  hole_sync : IsSync (node.the_hole K V)
  hole_sync = fix_sync (node.the_ring K V)
      (node.by_members K V (Syncs (node.the_ring K V)) record { sync = λ h all. declared_sync (node.the_layer K V h) (search (sendable, crosses, phase_sent.the_sync, all) depth 24) })
      (node.the_member K V)

  -- A node is Sync.
  node_sync : IsSync (node.the_row K V)
  node_sync = declared_sync (node.the_type K V) (search (sendable, crosses, phase_sent.the_sync, hole_sync) depth 24)

  -- The pointers in a slab are Sync.
  pointers_sync : IsSync (slab.the_row (at.the_row (node.the_row K V)) global.the_row allocator.ghosts)
  pointers_sync = view_sync (slab_inside.the_row (at.the_row (node.the_row K V)) global.the_row allocator.ghosts) _ _ _ _
      (declared_sync (slab_inside.the_type (at.the_row (node.the_row K V)) global.the_row allocator.ghosts) (search (sendable, crosses, at_sent.the_sync) depth 12))

  -- The table by hash is Sync, as its entries are.
  entry_sync : IsSync (entry.the_row (at.the_row (node.the_row K V)))
  entry_sync = declared_sync (entry.the_type (at.the_row (node.the_row K V))) (search (sendable, crosses, at_sent.the_sync) depth 12)

  by_hash_sync : IsSync (open_table.the_row (at.the_row (node.the_row K V)))
  by_hash_sync = view_sync (open_table_inside.the_row (at.the_row (node.the_row K V))) _ _ _ _
      (declared_sync (open_table_inside.the_type (at.the_row (node.the_row K V))) (search (sendable, crosses, entry_sync, at_sent.the_sync) depth 12))

  -- The memory of the nodes is Sync.
  memory_sync : IsSync (memory.the_row (node.the_row K V) global.the_row allocator.ghosts)
  memory_sync = Memory-sync (node.the_row K V) global.the_row allocator.ghosts node_sync

  -- The slots of a cache are Sync.
  slots_sync : IsSync (slots.the_row K V)
  slots_sync = declared_sync (slots.the_type K V) (search (sendable, crosses, global_sent.the_sync, pointers_sync, by_hash_sync, memory_sync, work_sync) depth 12)

  -- The order of the idle ones is Sync.
  order_sync : IsSync (order.the_row K V)
  order_sync = declared_sync (order.the_type K V) (search (sendable, crosses, slots_sync) depth 12)

  -- The nodes of a cache are Sync: a `&` to them holds a `&` to each field, and nothing else.
  pub nodes_sync : IsSync (nodes.the_row K V)
  nodes_sync = view_sync (nodes_inside.the_row K V) _ _ _ _
      record { shared = λ d b o κ. (struct_sync_at (shape (nodes_inside.the_type K V)) (to (nodes_inside.the_type K V) d) (order_sync.shared d.order, (work_sync.shared d.work, tt)) b o κ, tt) }

module _ (V M S : RattleType) (v : sharing.Ghosts M.Denot V.Denot S.Denot) where
  -- What a node stores is Send, as a share is.
  pub stored_send : IsSend S → IsSend (stored.the_row V M S v)
  stored_send own = view_send (stored_inside.the_row V M S v) _ _ _ _ (declared_send (stored_inside.the_type V M S v) (search (sendable, crosses) depth 12))

  -- What a node stores is Sync, as a share is.
  pub stored_sync : IsSync S → IsSync (stored.the_row V M S v)
  stored_sync own = view_sync (stored_inside.the_row V M S v) _ _ _ _ (declared_sync (stored_inside.the_type V M S v) (search (sendable, crosses) depth 12))

module _ (K V M S : RattleType) (key : IsSend K) (own : IsSend S) (shared : IsSync S) (v : sharing.Ghosts M.Denot V.Denot S.Denot) (h : hash.Ghosts K.Denot) (e : partial_eq.Ghosts K.Denot) (c : clone.Ghosts K.Denot) where
  -- The cache for one owner is Send.
  pub state_send : IsSend (state.the_row K V M S h e c v)
  state_send =
      let entries : IsSend (table.the_row K (stored.the_row V M S v) h e c) = table_send K (stored.the_row V M S v) key (stored_send V M S v own) (stored_sync V M S v shared) h e c in
      view_send (state_inside.the_row K V M S h e c v) _ _ _ _
      (declared_send (state_inside.the_type K V M S h e c v) (search (sendable, crosses, global_sent.the_send, entries) depth 12))
