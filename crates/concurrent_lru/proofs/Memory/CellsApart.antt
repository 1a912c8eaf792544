-- Two values of some bytes lie apart. Assumes `Logic`.
use mathlib.Core.Path.{◌≡◌, refl, sym}
use Prim.Native.Nat.{ℕ, ◌<◌}
use native.Mathlib.Omega.{arith}
use mathlib.Core.List.{List, [], ◌∷◌}
use seplogic.Ra.Ura.{Ura}
use base.Fraction.{full_share}
use base.Logic.{ent, sep, never, never_e, fst∗, via}
use base.Fml.{fat, froom}
use mir.Val.{Val}
use prog.Memory.{size}
use prog.Model.{Model}
use types.Logic.{Logic, sem}
use types.Kit.{fsplit, drop, rewrite, ‵, ◌⊛◌, some, given, ◌$◌, ◌∵◌, !, qed, by, move, keep, use1, pick, learn, split}
use denote.Memory.{part_at}
use denote.RawPtr.{Ptr, block_ptr, null_ptr, lies_at}
use mathlib.Core.Bool.{true, false}
use contract.Monad.{fact, fact_i}
use Rattle.std.specs.Prelude.{Option, None, Some}
use Rattle.concurrent_lru.specs.Cells.{same_ptr, IsApartFrom, AreApart}
use Rattle.concurrent_lru.proofs.Memory.CellSlots.{equal_ptrs}
use Rattle.concurrent_lru.proofs.Memory.Walks.{One, Owns, All, known}
use Rattle.std_alloc.proofs.BoxSteps.Form.{Bx, X, R, τ, own, Good}
use Rattle.std_alloc.proofs.BoxSteps.Steps.{el_out, el_room}

module _ (E : Bx) {M : Type 1} {𝓤 : Ura M} (𝓛 : Logic 𝓤) (𝓜 : Model 𝓤 𝓛.H) (some_bytes : 0 < size (τ E)) where
  clash : (b o : ℕ) (x y : X E) → ent 𝓤 (sep 𝓤 (sem 𝓛 (part_at (R E) full_share x b o)) (sem 𝓛 (part_at (R E) full_share y b o))) (never 𝓤)
  clash b o x y = qed 𝓛 (‵ (part_at (R E) full_share x b o) ∷ ‵ (part_at (R E) full_share y b o) ∷ []) ∵
      use1 𝓛 (‵ (froom (τ E) b o)) (el_room E 𝓛 x b o) $ move ! (1 ∷ []) $
      use1 𝓛 (some (λ (v : Val). given (Good E v) (‵ (fat full_share (τ E) b o v) ⊛ ‵ (own E y (v ∷ []))))) (el_out E 𝓛 y b o) $ pick ! (λ v. learn ! (λ good. split ! $
      move ! (2 ∷ 0 ∷ []) $ keep ! (0 ∷ 1 ∷ []) $ by ! (𝓜.room_at (τ E) (τ E) b o o o full_share v (omega arith, omega arith) (omega arith, omega arith))))

  -- two values do not lie at one place
  pub two_apart : (p : Ptr) (x y : X E) → ent 𝓤 (sep 𝓤 (sem 𝓛 (lies_at (R E) full_share p x)) (sem 𝓛 (lies_at (R E) full_share p y))) (never 𝓤)
  two_apart (block_ptr b o) x y = clash b o x y
  two_apart null_ptr x y = fst∗ 𝓤 (never 𝓤) (never 𝓤)

  clashing : (c d : One E) → c.at ≡ d.at → ent 𝓤 (sep 𝓤 (sem 𝓛 (Owns E (Some c))) (sem 𝓛 (Owns E (Some d)))) (never 𝓤)
  clashing c d e = qed 𝓛 (‵ (Owns E (Some c)) ∷ ‵ (Owns E (Some d)) ∷ []) ∵ fsplit ! $ move ! (2 ∷ []) $ fsplit ! $
      rewrite ! 0 (λ (p : Ptr). ‵ (lies_at (R E) full_share p d.value)) (sym e) refl $ keep ! (0 ∷ 2 ∷ []) $ by ! (two_apart c.at d.value c.value)

  differ : (c d : One E) → ent 𝓤 (sep 𝓤 (sem 𝓛 (Owns E (Some c))) (sem 𝓛 (Owns E (Some d)))) (fact 𝓤 (same_ptr c.at d.at ≡ false))
  differ c d = (elim (same_ptr c.at d.at) as (λ y. same_ptr c.at d.at ≡ y → ent 𝓤 (sep 𝓤 (sem 𝓛 (Owns E (Some c))) (sem 𝓛 (Owns E (Some d)))) (fact 𝓤 (same_ptr c.at d.at ≡ false))) [
    | true ↦ λ e. via 𝓤 (never 𝓤) (clashing c d (equal_ptrs c.at d.at e)) (never_e 𝓤 _)
    | false ↦ λ e. fact_i 𝓤 (same_ptr c.at d.at ≡ false) _ e
  ]) refl

  fresh : (c : One E) (cs : List (Option (One E))) → ent 𝓤 (sep 𝓤 (sem 𝓛 (Owns E (Some c))) (sem 𝓛 (All E cs))) (fact 𝓤 (IsApartFrom c cs))
  fresh c [] = fact_i 𝓤 (IsApartFrom c []) _ tt
  fresh c (None ∷ cs) = qed 𝓛 (‵ (Owns E (Some c)) ∷ ‵ (All E (None ∷ cs)) ∷ []) ∵ move ! (1 ∷ []) $ fsplit ! $ drop ! $ move ! (1 ∷ 0 ∷ []) $ by ! (fresh c cs)
  fresh c (Some d ∷ cs) = qed 𝓛 (‵ (Owns E (Some c)) ∷ ‵ (All E (Some d ∷ cs)) ∷ []) ∵ move ! (1 ∷ []) $ fsplit ! $ move ! (2 ∷ 0 ∷ []) $
      known ! (same_ptr c.at d.at ≡ false) (differ c d) (λ here. move ! (0 ∷ 2 ∷ []) $ known ! (IsApartFrom c cs) (fresh c cs) (λ rest. by ! (fact_i 𝓤 (IsApartFrom c (Some d ∷ cs)) _ (here, rest))))

  pub all_apart : (cs : List (Option (One E))) → ent 𝓤 (sem 𝓛 (All E cs)) (fact 𝓤 (AreApart cs))
  all_apart [] = fact_i 𝓤 (Unit {0}) _ tt
  all_apart (None ∷ cs) = qed 𝓛 (‵ (All E (None ∷ cs)) ∷ []) ∵ fsplit ! $ drop ! $ by ! (all_apart cs)
  all_apart (Some c ∷ cs) = qed 𝓛 (‵ (All E (Some c ∷ cs)) ∷ []) ∵ fsplit ! $ known ! (IsApartFrom c cs) (fresh c cs) (λ here. move ! (1 ∷ 0 ∷ []) $
      known ! (AreApart cs) (via 𝓤 _ (fst∗ 𝓤 (sem 𝓛 (All E cs)) (sem 𝓛 (Owns E (Some c)))) (all_apart cs)) (λ rest. by ! (fact_i 𝓤 (AreApart (Some c ∷ cs)) _ (here, rest))))
