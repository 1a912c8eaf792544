-- A `&` to a claim holds what its reader sees. Assumes `Logic`.
use mathlib.Core.List.{[], ◌++◌}
use base.Fml.{Lft, Incl, Incl-trans}
use contract.BorrowLft.{meet_⊑_left, meet_⊑_right}
use denote.RattleType.{RattleType}
use denote.Ref.{NamedLft, ShrRef}
use denote.Param.Laws.{Laws}
use denote.Param.Shared.{copy_shared}
use denote.Struct.Field.{RawPtr-field}
use denote.Struct.Laws.{RawPtr-copy, field_copy}
use denote.Struct.Lending.{of_Lends}
use Rattle.core.specs.contracts.marker.PhantomData as marker
use Rattle.counted_slot.specs.declared.Fits.{Ghosts}
use Rattle.counted_slot.proofs.Rounds.{claim_laws, Lends-claim}
use Rattle.lru_slot.specs.contracts.Claim as claim
use Rattle.lru_slot.proofs.Claim.TheLaw.Statement.{statement}

-- What is lent for the lives of a claim is lent for its lifetime.
outlived : (a : NamedLft) (T G : RattleType) (g : Ghosts T.Denot G.Denot)
    → Incl (claim.the_row a T G g).lives a.lft
outlived a T G g =
    let life : Lft = (ShrRef a.mir a.lft T).lives in
    let fields : Lft = (life ++ []) ++ [] in
    Incl-trans (meet_⊑_right (T.lives ++ (G.lives ++ [])) (fields ++ []))
    (Incl-trans (meet_⊑_left fields []) (Incl-trans (meet_⊑_left (life ++ []) [])
    (Incl-trans (meet_⊑_left life []) (meet_⊑_left a.lft T.lives))))

pub shares : (a : NamedLft) (T G : RattleType) (g : Ghosts T.Denot G.Denot) (L : Laws T)
    (K : Laws G) → statement a T G g L K
shares a T G g L K =
    let seen : RattleType = ShrRef a.mir a.lft T in
    of_Lends (claim.struct a T G g)
    (claim.the_codes T.Denot G.Denot T.coded G.coded (marker.the_row seen).coded)
    (claim.the_heap a.lft T G g) (claim.the_lent a.lft T G g)
    (λ c at. claim_laws a.lft T (g.fits c.tag) L.shr_laws c.slot c.right c.value) (
      copy_shared RawPtr-field RawPtr-copy,
      (copy_shared (marker.the_field seen) (field_copy (marker.the_type seen) tt), tt),
    )
    (λ M 𝓤 𝓛 c at. Lends-claim 𝓛 a.lft T (g.fits c.tag) L.shr_laws
    (claim.the_row a T G g).lives (outlived a T G g) c.slot c.right c.value)
