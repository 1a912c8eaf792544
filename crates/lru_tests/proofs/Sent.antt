-- A closure that calls the twin of the tests may be sent to a thread.
use mathlib.Core.List.{List, [], ◌∷◌}
use mir.Syntax.{Sym}
use denote.Builtin.{u64}
use denote.Param.Send.{IsSend, IsSync, sendable, shr_send, shr_sync}
use denote.Param.SendFields.{declared_send, as_row_send}
use denote.RattleType.{RattleType}
use denote.Ref.{NamedLft, ShrRef}
use denote.Struct.Field.{row_field}
use denote.Struct.Tuple.{TupleAt, type_at}
use Rattle.std.specs.contracts.prelude.U64Hash.TheImpl as hash_u64
use Rattle.std.specs.contracts.prelude.U64PartialEq.TheImpl as partial_eq_u64
use Rattle.std.specs.contracts.prelude.U64Clone.TheImpl as clone_u64
use Rattle.std.specs.contracts.alloc.Global as global
use Rattle.std.proofs.alloc.Global.TheSendSync as global_sent
use Rattle.lru_journal.specs.declared.tally.Identity as identity
use Rattle.lru_journal.specs.contracts.tally.Tally as tally
use Rattle.lru_journal.specs.contracts.twin.Twin as twin
use Rattle.lru_journal.proofs.Threads.TwinShared.{twin_sync}
use Rattle.lru_journal.proofs.tally.Tally.TheSendSync as tally_sent

module _ (name : Sym) (lent held : NamedLft) (R I : RattleType) (i : identity.Ghosts I.Denot) where
  -- the twin of the tests, which holds a `&` to its runtime
  abbrev the_twin : RattleType
  the_twin = twin.the_row u64 u64 (ShrRef held.mir held.lft R) I hash_u64.ghosts partial_eq_u64.ghosts clone_u64.ghosts i

  -- what a caller's closure captures: a `&` to the twin, the allocator and a tally
  abbrev captured : List RattleType
  captured = ShrRef lent.mir lent.lft the_twin ∷ global.the_row ∷ tally.the_row u64 I i ∷ []

  -- A caller's closure is Send.
  pub closure_send : IsSync R → IsSend I → IsSend (TupleAt name captured)
  closure_send waits named =
      let number : IsSend u64 = search sendable in
      let shared : IsSync the_twin = twin_sync u64 u64 number number (search sendable) hash_u64.ghosts partial_eq_u64.ghosts clone_u64.ghosts I i named (ShrRef held.mir held.lft R) (shr_sync held.mir held.lft R waits) in
      declared_send (type_at name captured) (
        as_row_send (row_field (ShrRef lent.mir lent.lft the_twin)) (shr_send lent.mir lent.lft the_twin shared),
        (
          as_row_send (row_field global.the_row) global_sent.the_send,
          (as_row_send (row_field (tally.the_row u64 I i)) (tally_sent.the_send u64 I i), tt),
        ),
      )
