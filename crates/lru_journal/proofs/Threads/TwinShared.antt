-- The twin may be shared between threads: what a caller that sends a `&` to it needs.
use denote.Param.Send.{IsSend, IsSync, sendable, view_send}
use denote.Param.SendFields.{declared_send, declared_sync, as_row_sync}
use denote.RattleType.{RattleType}
use denote.Struct.Field.{row_field}
use Rattle.std.specs.declared.hash.Hash as hash
use Rattle.std.specs.declared.cmp.PartialEq as partial_eq
use Rattle.std.specs.declared.clone.Clone as clone
use Rattle.std.specs.contracts.alloc.Global as global
use Rattle.std.specs.contracts.impls.GlobalAllocator.TheImpl as allocator
use Rattle.std.specs.contracts.sync.Arc as arc
use Rattle.std.specs.contracts.sync.Mutex as mutex
use Rattle.std.proofs.Crossing.{crosses, Arc-send, Arc-sync}
use Rattle.std.proofs.alloc.Global.TheSendSync as global_sent
use Rattle.std.proofs.sync.Mutex.TheSendSync as mutex_sent
use Rattle.atomic_table.proofs.shared.Seat.TheSendSync as seat_sent
use Rattle.crossbeam_utils.proofs.atomic.seq_cell.Wide.TheSendSync as wide_sent
use Rattle.concurrent_lru.specs.contracts.lru_core.State as state
use Rattle.concurrent_lru.specs.contracts.share.ByArc as by_arc
use Rattle.concurrent_lru.specs.contracts.share.ByArcSharing.TheImpl as by_arc_sharing
use Rattle.concurrent_lru.proofs.Threads.CacheSent.{state_send}
use Rattle.lru_journal.specs.declared.tally.Identity as identity
use Rattle.lru_journal.specs.contracts.twin_state.TwinState as twin_state
use Rattle.lru_journal.specs.contracts.twin_state.TwinState.TheInside as twin_state_fields
use Rattle.lru_journal.specs.contracts.door.Door as door
use Rattle.lru_journal.specs.contracts.journal.Journal.TheInside as journal
use Rattle.lru_journal.specs.contracts.twin.Twin as twin
use Rattle.lru_journal.proofs.record.Record.TheSendSync as record_sent

module _ (K V : RattleType) (key : IsSend K) (value : IsSend V) (shared : IsSync V) where
  module _ (h : hash.Ghosts K.Denot) (e : partial_eq.Ghosts K.Denot) (c : clone.Ghosts K.Denot) where
    -- What a journal keeps its records of is Send.
    cache_send : IsSend (state.the_row K V by_arc.the_row (arc.the_row V global.the_row allocator.ghosts) h e c (by_arc_sharing.ghosts V))
    cache_send = state_send K V by_arc.the_row _ key (Arc-send V value shared) (Arc-sync V value shared) (by_arc_sharing.ghosts V) h e c

    -- The journal is Send.
    journal_send : IsSend (journal.the_row K V h e c)
    journal_send =
        declared_send (journal.the_type K V h e c) (
          search (sendable, cache_send) depth 12,
          (search (sendable, crosses, record_sent.the_send) depth 12, (search sendable, tt)),
        )

    module _ (I : RattleType) (i : identity.Ghosts I.Denot) (named : IsSend I) where
      -- What lies under the twin's lock is Send.
      twin_state_send : IsSend (twin_state.the_row K V I h e c i)
      twin_state_send = view_send (twin_state_fields.the_row K V I h e c i) _ _ _ _ (declared_send (twin_state_fields.the_type K V I h e c i) (search (sendable, crosses, seat_sent.the_send, journal_send) depth 12))

      module _ (R : RattleType) (waits : IsSync R) where
        -- The door of the twin is Sync.
        door_sync : IsSync (door.the_row K V R I h e c i)
        door_sync = declared_sync (door.the_type K V R I h e c i) (
          search (sendable, crosses, wide_sent.the_sync, global_sent.the_send, global_sent.the_sync),
          (
            as_row_sync (mutex.the_field (twin_state.the_row K V I h e c i)) (mutex_sent.the_sync (twin_state.the_row K V I h e c i) twin_state_send),
            (as_row_sync (row_field R) waits, tt),
          ),
        )

        -- The twin is Sync.
        pub twin_sync : IsSync (twin.the_row K V R I h e c i)
        twin_sync = declared_sync (twin.the_type K V R I h e c i) (door_sync, tt)
