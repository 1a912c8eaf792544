-- A claim may be shared with another thread, where the value of its slot may.
use Rattle.std.specs.Prelude.{ℕ, zero, suc, ◌+◌, ◌++◌, Option, Some, None}
use base.Fml.{Lft}
use denote.RattleType.{RattleType}
use denote.RawPtr.{Ptr, block_ptr, null_ptr}
use denote.Ref.{NamedLft}
use denote.Struct.Owning.{shape, fields, to}
use denote.Param.Send.{IsSync, AllSync, Common, struct_sync, sendable}
use Rattle.std.proofs.Crossing.{crosses}
use Rattle.counted_slot.specs.Counting.{offset, claim_shares, shown}
use Rattle.counted_slot.specs.declared.Fits.{Ghosts}
use Rattle.lru_slot.specs.contracts.Claim.{the_row, the_type}

module _ (T G : RattleType) (g : Ghosts T.Denot G.Denot) (y : IsSync T) where
  -- What is seen of a reader's value names no thread.
  shown_common : (β : Lft) (d : G.Denot) (b o : ℕ) (right : ℕ) (v : Option T.Denot)
      → Common (shown T (g.fits d) b o β right v)
  shown_common β d b o zero v κ = tt
  shown_common β d b o (suc zero) (Some x) κ =
      ((λ _. tt), y.shared x b (o + offset T) (κ ++ β))
  shown_common β d b o (suc zero) None κ = tt
  shown_common β d b o (suc (suc k)) v κ = tt

  lent_common : (β : Lft) (d : G.Denot) (p : Ptr) (right : ℕ) (v : Option T.Denot)
      → Common (claim_shares β T (g.fits d) p right v)
  lent_common β d (block_ptr b o) right v κ = shown_common β d b o right v κ
  lent_common β d null_ptr right v κ = tt

pub sync : (a : NamedLft) (T G : RattleType) (g : Ghosts T.Denot G.Denot)
    → IsSync T → IsSync (the_row a T G g)
sync a T G g y =
    let O = the_type a T G g in
    let all : AllSync (fields O) = (search sendable, (search (sendable, crosses), tt)) in
    record {
      shared = λ d b o κ. (
        (struct_sync (shape O) all).shared (to O d) b o κ,
        lent_common T G g y a.lft d.tag d.slot d.right d.value κ,
      );
    }
