-- A claim may go to another thread, where the value of its slot may, and may be shared with it.
use Rattle.std.specs.Prelude.{ℕ, zero, suc, ◌+◌, ◌∷◌, Option, Some, None}
use base.Fml.{Lft}
use base.Fraction.{full_share}
use base.Shift.{Keyless}
use denote.RattleType.{RattleType}
use denote.RawPtr.{Ptr, block_ptr, null_ptr}
use denote.Ref.{NamedLft}
use denote.Struct.Struct.{exits_of}
use denote.Struct.Owning.{shape, fields, to}
use denote.Param.Send.{IsSend, IsSync, AllSend, part_keyless, owning_send, struct_send, sendable}
use Rattle.std.proofs.Crossing.{crosses}
use Rattle.std_alloc.proofs.SendSync.{quiet}
use Rattle.counted_slot.specs.Counting.{Id, offset, right_to, claim_owns}
use Rattle.counted_slot.specs.declared.Fits.{Ghosts}
use Rattle.counted_slot.proofs.Counted.TheSendSync.{the_sync}
use Rattle.lru_slot.specs.contracts.Claim.{the_row, the_type}

module _ (T G : RattleType) (g : Ghosts T.Denot G.Denot) (s : IsSend T) (y : IsSync T) where
  -- What a claim gained names no thread.
  right_keyless : (d : G.Denot) (b o : ℕ) (t : Id) (right : ℕ) (v : Option T.Denot)
      → Keyless (right_to T (g.fits d) b o t right v)
  right_keyless d b o t zero v = tt
  right_keyless d b o t (suc zero) (Some x) =
      λ a. ((λ e c. (tt, tt)), ((λ _. tt), y.shared x b (o + offset T) (a ∷ t.0)))
  right_keyless d b o t (suc zero) None = tt
  right_keyless d b o t (suc (suc k)) v =
      ((tt, tt), λ x. (part_keyless T s full_share x b (o + offset T), λ _. tt))

  -- Nor does the slot, as it is shared.
  claim_keyless : (β : Lft) (d : G.Denot) (p : Ptr) (right : ℕ) (v : Option T.Denot)
      → Keyless (claim_owns β T (g.fits d) p right v)
  claim_keyless β d (block_ptr b o) right v =
      λ t. ((the_sync T G g s y).shared d b o β t, right_keyless d b o t right v)
  claim_keyless β d null_ptr right v = tt

pub send : (a : NamedLft) (T G : RattleType) (g : Ghosts T.Denot G.Denot)
    → IsSend T → IsSync T → IsSend (the_row a T G g)
send a T G g s y =
    let O = the_type a T G g in
    let all : AllSend (fields O) = (search sendable, (search (sendable, crosses), tt)) in
    owning_send O all (λ d. claim_keyless T G g s y a.lft d.tag d.slot d.right d.value)
    (λ k. quiet (to O) (exits_of k (fields O)) ((struct_send (shape O) all).leaving k))
