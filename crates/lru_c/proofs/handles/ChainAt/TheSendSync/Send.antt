-- A pointer may go to another thread, as what it owns may.
use denote.Struct.Struct.{exits_of}
use denote.Struct.Owning.{shape, fields, to}
use denote.Param.Send.{IsSend, AllSend, owning_send, struct_send, sendable}
use denote.Param.SendFields.{declared_send, variants_send}
use Rattle.std.proofs.Crossing as heap
use Rattle.std_alloc.proofs.SendSync.{quiet}
use Rattle.std_heap.proofs.Global.TheSendSync as handle
use Rattle.concurrent_lru.proofs.Threads.CacheSent.{stored_send, stored_sync}
use Rattle.lru_c.proofs.EvictedSent.{evicted_send}
use Rattle.lru_c.proofs.HandleSent.{held_keyless}
use Rattle.lru_c.specs.Pointers.{chain_row}
use Rattle.lru_c.specs.contracts.bytes.key.Bytes as Bytes
use Rattle.lru_c.specs.contracts.chain.AnyChain as AnyChain
use Rattle.lru_c.specs.contracts.chain.Chain as Chain
use Rattle.lru_c.specs.contracts.handles.ChainAt.{the_row, the_type}
use Rattle.lru_c.specs.contracts.words.key.Words as Words

-- A chain has no more than two chains of evicted entries.
of_bytes : IsSend (Chain.the_row Bytes.the_row)
of_bytes = declared_send (Chain.the_type Bytes.the_row) (search (sendable, heap.crosses, evicted_send, stored_send, stored_sync) depth 16)

of_words : IsSend (Chain.the_row Words.the_row)
of_words = declared_send (Chain.the_type Words.the_row) (search (sendable, heap.crosses, evicted_send, stored_send, stored_sync) depth 16)

inner : IsSend chain_row
inner = variants_send AnyChain.enum (search (sendable, heap.crosses, of_bytes, of_words) depth 16)

pub send : IsSend the_row
send =
    let all : AllSend (fields the_type) = (search sendable, (handle.the_field_send, tt)) in
    owning_send the_type all (λ d. held_keyless chain_row inner d.alloc d.at d.held)
    (λ k. quiet (to the_type) (exits_of k (fields the_type)) ((struct_send (shape the_type) all).leaving k))
