-- A `Counted` is laid out and shared as the kit's, so the kit's law holds of it. Assumes `Logic`.
use Rattle.std.proofs.Common.{ℕ, T, List, [], ◌∷◌}
use seplogic.Ra.Ura.{Ura}
use mir.Val.{Val}
use base.Fraction.{full_share}
use base.Logic.{ent, emp, via, fst∗, never_e}
use base.Fml.{Fml, ftrue, fsep, fex}
use prog.RawLaws.{has_ty-raw}
use contract.Monad.{fact, fact_i, fact_use}
use types.Logic.{Logic, sem}
use types.Kit.{‵, ◌$◌, ◌∵◌, !, qed, by, move, keep, use0, fsplit3, fjoin, fjoin3, fpick, fpack}
use types.Kit.{done}
use types.Run.{well_typed}
use mathlib.Core.Path.{subst}
use denote.Laws.{Typed}
use denote.Memory.{part_of, part_at, cell_raw, raw_all}
use denote.Model.Laws.{Lends-as}
use denote.Param.{layout}
use denote.Param.Laws.{Laws}
use denote.RattleType.{RattleType}
use denote.RawPtr.{block_ptr}
use Rattle.counted_slot.specs.Counting.{slot_shares}
use Rattle.counted_slot.specs.contracts.Counted as kit
use Rattle.counted_slot.specs.declared.Fits.{Ghosts}
use Rattle.counted_slot.proofs.Counted.TheLaws.{the_row_laws}
use Rattle.lru_slot.specs.contracts.Counted as slot
use Rattle.lru_slot.proofs.Counted.TheLaw.Statement.{statement}

module _ (R G : RattleType) (g : Ghosts R.Denot G.Denot) {M : Type 1} {𝓤 : Ura M} (𝓛 : Logic 𝓤)
    (tag : G.Denot) (b o : ℕ) where
  abbrev S : RattleType
  S = slot.the_written R G g

  abbrev Kit : RattleType
  Kit = kit.the_row R G g

  abbrev cells : List Val → Fml
  cells vs = cell_raw full_share (raw_all S.mir) vs b o

  -- What lies in memory has its type.
  typed : (vs : List Val) → ent 𝓤 (sem 𝓛 (cells vs)) (fact 𝓤 (Typed S.mir vs))
  typed [] = never_e 𝓤 _
  typed (v ∷ []) = qed 𝓛 (‵ (cells (v ∷ [])) ∷ []) ∵ well_typed ! (λ t. keep ! [] $
      by ! (fact_i 𝓤 (Typed S.mir (v ∷ [])) (emp 𝓤)
      ((subst T (has_ty-raw (layout S) v) t.0, t.1), tt)))
  typed (v ∷ u ∷ us) = never_e 𝓤 _

  to_kit : ent 𝓤 (sem 𝓛 (part_at S full_share tag b o)) (sem 𝓛 (part_at Kit full_share tag b o))
  unfolding part_of
  to_kit = qed 𝓛 (‵ (part_at S full_share tag b o) ∷ []) ∵ fpick ! (λ vs.
      by ! (fact_use 𝓤 (Typed S.mir vs)
      (via 𝓤 (sem 𝓛 (cells vs)) (fst∗ 𝓤 (sem 𝓛 (cells vs)) (sem 𝓛 (S.own_val tag vs)))
      (typed vs)) (λ t.
      qed 𝓛 (‵ (cells vs) ∷ ‵ (S.own_val tag vs) ∷ []) ∵
      use0 𝓛 (‵ (fex (Typed S.mir vs) (λ _. ftrue)))
      (fact_i 𝓤 (Typed S.mir vs) (emp 𝓤) t) $ move ! (1 ∷ 0 ∷ []) $ fjoin3 ! $
      fpack ! (List Val) (λ us. fsep (cells us) (Kit.own_val tag us)) vs $ done !)))

  of_kit : ent 𝓤 (sem 𝓛 (part_at Kit full_share tag b o)) (sem 𝓛 (part_at S full_share tag b o))
  unfolding part_of
  of_kit = qed 𝓛 (‵ (part_at Kit full_share tag b o) ∷ []) ∵ fpick ! (λ vs. fsplit3 ! $
      keep ! (0 ∷ 2 ∷ []) $ fjoin ! $
      fpack ! (List Val) (λ us. fsep (cells us) (S.own_val tag us)) vs $ done !)

pub shares : (T G : RattleType) (g : Ghosts T.Denot G.Denot) (L : Laws T) (K : Laws G)
    → statement T G g L K
shares T G g L K =
    let laws = the_row_laws T G g L K in
    record {
      shr_laws = laws.shr_laws;
      shares = λ M 𝓤 𝓛 tag κ ts b o.
          let own = slot.the_written T G g in let kits = kit.the_row T G g in
          Lends-as 𝓛 (part_at own full_share tag b o) (part_at kits full_share tag b o)
          (slot_shares T (g.fits tag) (block_ptr b o)) kits.lives
          (to_kit T G g 𝓛 tag b o) (of_kit T G g 𝓛 tag b o)
          (λ κ' ts'. laws.shares 𝓛 tag κ' ts' b o) κ ts;
    }
