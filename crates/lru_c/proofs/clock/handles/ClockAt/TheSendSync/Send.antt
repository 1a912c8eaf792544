-- A pointer may go to another thread, as what it owns may.
use denote.Struct.Struct.{exits_of}
use denote.Struct.Owning.{shape, fields, to}
use denote.Param.Send.{AllSend, IsSend, owning_send, struct_send, sendable}
use Rattle.std_alloc.proofs.SendSync.{quiet}
use Rattle.std_heap.proofs.Global.TheSendSync as handle
use Rattle.lru_c.proofs.HandleSent.{held_keyless}
use Rattle.lru_c.specs.ClockPointers.{clock_row}
use Rattle.lru_c.proofs.clock.locked.Clock.TheSendSync.{the_send}
use Rattle.lru_c.specs.contracts.clock.handles.ClockAt.{the_row, the_type}

pub send : IsSend the_row
send =
    let all : AllSend (fields the_type) = (search sendable, (handle.the_field_send, tt)) in
    owning_send the_type all (λ d. held_keyless clock_row the_send d.alloc d.at d.held)
    (λ k. quiet (to the_type) (exits_of k (fields the_type)) ((struct_send (shape the_type) all).leaving k))
