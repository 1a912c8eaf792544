-- A value is put: a round of readers begins, of whom the one that puts it may be the first. The
-- kit's lemmas begin a round with some value that fits. Here it is known. Assumes `Logic`.
use Rattle.std.proofs.Common.{◌≡◌, ℕ, zero, suc, ◌+◌, ◌-◌, ◌%◌, ◌^◌, ◌<◌, ◌≤◌, [], ◌∷◌, ◌++◌}
use Rattle.std.proofs.Common.{refl, sym, arith, Option, Some, None}
use mathlib.Core.Logic.{dite}
use native.Mathlib.Decide.{ℕ_discrete}
use seplogic.Ra.Ura.{Ura}
use base.Fraction.{full_share}
use base.FractionLaws.{Counts-all}
use base.Logic.{SProp, ent, sep, wand, emp, upd, upd_i, id⊢}
use base.Fml.{Lft, Share, Incl, Incl-trans, Fml, ftrue, fsep, fseps, fex, fwand, fupd, fdead, fbor}
use base.Fml.{flft}
use contract.BorrowLft.{meet_⊑_left, meet_⊑_right, ⊑_meet}
use ghost.Rules.{Toks, span}
use types.Logic.{Logic, sem}
use types.Kit.{‵, raw, ◌⊛◌, later, ◌$◌, ◌∵◌, !, qed, by, move, keep, drop, use1, use2}
use types.Kit.{split, split3, group, fsplit, fsplit3, fjoin, fjoin3, fpick, fpack, show, frame}
use types.Kit.{each, assume, suffices, settle, await, updating, now, rewrite, done}
use types.Tokens.{lft_new}
use types.Na.{out, out_once}
use denote.RattleType.{RattleType, RowLaws}
use denote.Memory.{part_at, shared_of}
use denote.RawPtr.{block_ptr}
use denote.Shares.{Shares}
use denote.SharingLaws.{contraction}
use denote.Steps.{nothing}
use Rattle.core.specs.Sync.RawAtomic.{asks, always, word}
use Rattle.core.proofs.raw_atomic.Asked.{borrowed, Lies, Again}
use Rattle.counted_slot.specs.Counting.{readers, IsShared, fact, tag, parts, Id, Phase}
use Rattle.counted_slot.specs.Counting.{free, away, shared, offset, cell, seen, waits, state, State}
use Rattle.counted_slot.specs.Counting.{Inv, right_to}
use Rattle.counted_slot.proofs.Parts.{parts_in, parts_cut, renames}
use Rattle.counted_slot.proofs.Rounds.{seen_laws, ended}

module _ {M : Type 1} {𝓤 : Ura M} (𝓛 : Logic 𝓤) (R : RattleType) (ok : R.Denot → Type 0) (b o : ℕ)
    (t : Id) where
  open 𝓛 use {H, A}

  abbrev Pr : Type 2
  Pr = SProp 𝓤

  abbrev ◌⊢◌ : Pr → Pr → Type 1
  P ⊢ Q = ent 𝓤 P Q

  abbrev ◌∗◌ : Pr → Pr → Pr
  P ∗ Q = sep 𝓤 P Q

  abbrev ⟦◌⟧ : Fml → Pr
  ⟦ P ⟧ = sem 𝓛 P

  infix 26 ◌⊢◌
  infixr 35 ◌∗◌
  abbrev α : Lft
  α = t.0

  abbrev C : Fml
  C = cell R ok b o

  abbrev pub At : R.Denot → Fml
  At x = part_at R full_share x b (o + offset R)

  -- A round has a lifetime of its own, at whose end the value comes back.
  abbrev pub begun : ℕ → Fml
  begun a = fsep (flft (a ∷ []) full_share) (fsep (waits R ok b o t a) (fbor (a ∷ α) C))

  pub begins : A.bor α C ⊢ H.⇛ ⟦ fex ℕ begun ⟧
  begins = qed 𝓛 (‵ (fbor α C) ∷ []) ∵ updating ! $ lft_new ! tt (λ a. move ! (1 ∷ []) $
      use1 𝓛 (later (‵ (fbor (a ∷ α) C) ⊛ ‵ (waits R ok b o t a)))
      (𝓛.more.bor_reborrow α (a ∷ α) C (meet_⊑_right (a ∷ []) α)) $ await ! tt $ split ! $
      move ! (2 ∷ 1 ∷ 0 ∷ []) $ fjoin3 ! $ fpack ! ℕ begun a $ now ! $ done !)

  -- The open borrow of the cell becomes one of the value that was put into it.
  pub put_back : (κ : Lft) (x : R.Denot) → ok x
      → emp 𝓤 ⊢ ⟦ fwand (fsep (fdead κ) (fseps (At x ∷ []))) (fupd C) ⟧
  unfolding fseps
  put_back κ x fit = qed 𝓛 [] ∵ assume ! (‵ (fsep (fdead κ) (fsep (At x) ftrue))) $
      suffices ! ⟦ C ⟧ (upd_i 𝓤 ⟦ C ⟧) $ fsplit3 ! $ keep ! (1 ∷ []) $
      nothing ! $ fpack ! (ok x) (λ _. ftrue) fit $ move ! (1 ∷ 0 ∷ []) $ fjoin ! $
      fpack ! R.Denot (λ y. fsep (At y) (fact (ok y))) x $ done !

  -- A value that was put, seen by the round's readers.
  abbrev pub told : R.Denot → ℕ → Fml
  told x a = fsep (flft (a ∷ []) full_share) (fsep (seen R ok b o x (a ∷ α)) (waits R ok b o t a))

  module _ (l : Lft) (shares : Shares 𝓛 R l) (x : R.Denot) (fit : ok x) (a : ℕ) (s : Share)
      (τ : Lft) (r : Share) (inc : Incl τ l) where
    pub tells : ⟦ waits R ok b o t a ⟧ ∗ A.bor (a ∷ α) (At x) ∗ A.lft (a ∷ []) full_share
        ∗ A.lft α s ∗ A.lft τ r ⊢ H.⇛ (⟦ told x a ⟧ ∗ A.lft α s ∗ A.lft τ r)
    tells =
        let ts : Toks = (a ∷ [], full_share) ∷ (α, s) ∷ (τ, r) ∷ [] in let e : ℕ = o + offset R in
        let inner : Lft = α ++ τ in
        let in_round : Incl (span ts) (a ∷ α) =
        ⊑_meet (a ∷ inner) (a ∷ []) α (meet_⊑_left (a ∷ []) inner)
        (Incl-trans (meet_⊑_right (a ∷ []) inner) (meet_⊑_left α τ)) in
        let in_lives : Incl (span ts) l =
        Incl-trans (meet_⊑_right (a ∷ []) inner) (Incl-trans (meet_⊑_right α τ) inc) in
        qed 𝓛 (‵ (waits R ok b o t a) ∷ ‵ (fbor (a ∷ α) (At x)) ∷ ‵ (flft (a ∷ []) full_share)
        ∷ ‵ (flft α s) ∷ ‵ (flft τ r) ∷ []) ∵ updating ! $
        move ! (2 ∷ 3 ∷ 4 ∷ []) $ group ! 3 $ move ! (2 ∷ 0 ∷ []) $
        use2 𝓛 (later (‵ (shared_of R x b e (a ∷ α)) ⊛ ‵ (flft (a ∷ []) full_share) ⊛ ‵ (flft α s)
        ⊛ ‵ (flft τ r))) (shares x (a ∷ α) ts b e in_lives in_round) $ await ! tt $ split3 ! $
        nothing ! $ fpack ! (ok x) (λ _. ftrue) fit $ fjoin ! $ move ! (1 ∷ 0 ∷ 3 ∷ []) $
        fjoin3 ! $ now ! $ done !

  -- What comes back to the slot with the word `new`: the value alone, or its round of readers.
  module _ (new : ℕ) (x : R.Denot) where
    abbrev pub brought : Option ℕ → Fml
    brought None = fsep (fact (new % 4 ≡ 0)) (fbor α C)
    brought (Some a) = fsep (fact (IsShared new)) (told x a)

    abbrev pub Brought : Fml
    Brought = fex (Option ℕ) brought

    pub brings : new % 4 < 3 → (a : ℕ) → ⟦ told x a ⟧ ⊢ H.⇛ ⟦ Brought ⟧
    brings low a = dite (ℕ_discrete (new % 4) 0)
        (λ z. qed 𝓛 (‵ (told x a) ∷ []) ∵ updating ! $ fsplit3 ! $ keep ! (0 ∷ 2 ∷ []) $
        use2 𝓛 (later (‵ (fbor α C))) (ended 𝓛 R ok b o t a) $ await ! tt $
        nothing ! $ fpack ! (new % 4 ≡ 0) (λ _. ftrue) z $ fjoin ! $
        fpack ! (Option ℕ) brought None $ now ! $ done !)
        (λ z. qed 𝓛 (‵ (told x a) ∷ []) ∵ updating ! $
        nothing ! $ fpack ! (IsShared new) (λ _. ftrue) (omega arith, low) $ fjoin ! $
        fpack ! (Option ℕ) brought (Some a) $ now ! $ done !)

    abbrev St : Fml
    St = State R ok b o t new

    abbrev gained : ℕ → Fml
    gained k = right_to R ok b o t k (Some x)

    module _ (L : RowLaws R) (a : ℕ) (is_shared : IsShared new) where
      abbrev Seen : Fml
      Seen = seen R ok b o x (a ∷ α)

      abbrev left : ℕ → Fml
      left m = fsep (parts t.1 a (2 ^ 63 - m)) (fsep (out t.2) (fsep Seen (waits R ok b o t a)))

      holds : (m : ℕ) → m ≤ readers new → ⟦ left m ⟧ ⊢ ⟦ St ⟧
      holds m some = qed 𝓛 (‵ (left m) ∷ []) ∵
          nothing ! $ fpack ! (IsShared new × (m ≤ readers new)) (λ _. ftrue) (is_shared, some) $
          fjoin ! $ fpack ! (Phase R.Denot) (state R ok b o t new) (shared a m x) $ done !

      -- The first of the word's readers is the one that put the value.
      gains : (k : ℕ) → readers new ≡ k → k ≤ 1 → ⟦ left 0 ⟧ ⊢ ⟦ St ⟧ ∗ ⟦ gained k ⟧
      gains zero many few = qed 𝓛 (‵ (left 0) ∷ []) ∵ use1 𝓛 (‵ St) (holds 0 (omega arith)) $
          nothing ! $ move ! (1 ∷ 0 ∷ []) $ done !
      gains (suc zero) many few = qed 𝓛 (‵ (left 0) ∷ []) ∵ fsplit3 ! $
          use1 𝓛 (‵ (parts t.1 a 1) ⊛ ‵ (parts t.1 a (2 ^ 63 - 1)))
          (parts_cut 𝓛 t.1 a (2 ^ 63) 1 (2 ^ 63 - 1) (omega arith) (omega arith) (omega arith)
          (omega arith)) $ split ! $ move ! (3 ∷ []) $ fsplit ! $
          use1 𝓛 (‵ Seen ⊛ ‵ Seen) (contraction 𝓛 (seen R ok b o x) (seen_laws R ok L b o x)
          (a ∷ α)) $ split ! $ move ! (3 ∷ 0 ∷ []) $ fjoin ! $
          fpack ! ℕ (λ u. fsep (parts t.1 u 1) (seen R ok b o x (u ∷ α))) a $
          move ! (1 ∷ 2 ∷ []) $ fjoin ! $ move ! (3 ∷ 0 ∷ []) $ fjoin ! $
          move ! (2 ∷ 0 ∷ []) $ fjoin ! $ use1 𝓛 (‵ St) (holds 1 (omega arith)) $ done !
      gains (suc (suc k)) many few = absurd (omega arith)

      pub shared_anew : (c k : ℕ) → readers new ≡ k → k ≤ 1
          → ⟦ tag t.1 full_share c ⟧ ∗ ⟦ out t.2 ⟧ ∗ ⟦ told x a ⟧ ⊢ upd 𝓤 (⟦ St ⟧ ∗ ⟦ gained k ⟧)
      shared_anew c k many few =
          let Z : Pr = ⟦ St ⟧ ∗ ⟦ gained k ⟧ in
          qed 𝓛 (‵ (tag t.1 full_share c) ∷ ‵ (out t.2) ∷ ‵ (told x a) ∷ []) ∵
          use1 𝓛 (raw (upd 𝓤 ⟦ tag t.1 full_share a ⟧)) (renames 𝓛 t.1 c a) $
          settle 𝓛 Z (‵ (tag t.1 full_share a)) $ suffices ! Z (upd_i 𝓤 Z) $
          move ! (2 ∷ []) $ fsplit3 ! $ move ! (0 ∷ 3 ∷ []) $ fjoin ! $
          use1 𝓛 (‵ (parts t.1 a (2 ^ 63)))
          (parts_in 𝓛 t.1 a (2 ^ 63) full_share (Counts-all 63)) $
          move ! (1 ∷ 2 ∷ []) $ fjoin ! $ move ! (2 ∷ 0 ∷ []) $ fjoin ! $
          move ! (1 ∷ 0 ∷ []) $ fjoin ! $ by ! (gains k many few)

    -- One store of `new`, which ends the writer's turn.
    module _ (L : RowLaws R) (low : new % 4 < 3) (k : ℕ) (many : readers new ≡ k) (few : k ≤ 1)
        (fewer : k ≤ new % 4) where
      abbrev pub Offer : Fml
      Offer = fsep (out t.2) Brought

      abbrev Z : Pr
      Z = ⟦ St ⟧ ∗ ⟦ gained k ⟧

      at_home : k ≡ 0 → ⟦ St ⟧ ⊢ upd 𝓤 Z
      at_home z = qed 𝓛 (‵ St ∷ []) ∵ suffices ! Z (upd_i 𝓤 Z) $ nothing ! $
          move ! (1 ∷ 0 ∷ []) $ rewrite ! 1 (λ (m : ℕ). ‵ (gained m)) (sym z) refl $ done !

      returns : (c : ℕ) (z : Option ℕ)
          → ⟦ tag t.1 full_share c ⟧ ∗ ⟦ out t.2 ⟧ ∗ ⟦ brought z ⟧ ⊢ upd 𝓤 Z
      returns c None = qed 𝓛 (‵ (tag t.1 full_share c) ∷ ‵ (out t.2) ∷ ‵ (brought None) ∷ []) ∵
          fpack ! ℕ (tag t.1 full_share) c $ move ! (2 ∷ []) $ fsplit ! $ fpick ! (λ z. drop ! $
          move ! (1 ∷ 2 ∷ 0 ∷ []) $ fjoin3 ! $
          nothing ! $ fpack ! (new % 4 ≡ 0) (λ _. ftrue) z $ fjoin ! $
          fpack ! (Phase R.Denot) (state R ok b o t new) free $ by ! (at_home (omega arith)))
      returns c (Some a) =
          qed 𝓛 (‵ (tag t.1 full_share c) ∷ ‵ (out t.2) ∷ ‵ (brought (Some a)) ∷ []) ∵
          move ! (2 ∷ []) $ fsplit ! $ fpick ! (λ is_shared. drop ! $ move ! (1 ∷ 2 ∷ 0 ∷ []) $
          by ! (shared_anew L a is_shared c k many few))

      stored : (n : ℕ) (p : Phase R.Denot) → ⟦ state R ok b o t n p ⟧ ∗ ⟦ Offer ⟧ ⊢ upd 𝓤 Z
      stored n free = qed 𝓛 (‵ (state R ok b o t n free) ∷ ‵ Offer ∷ []) ∵ fsplit3 ! $
          move ! (2 ∷ []) $ fsplit ! $ move ! (4 ∷ []) $ fsplit ! $ keep ! (0 ∷ 2 ∷ []) $
          by ! (out_once 𝓛 t.2 Z)
      stored n (shared c m y) = qed 𝓛 (‵ (state R ok b o t n (shared c m y)) ∷ ‵ Offer ∷ []) ∵
          fsplit3 ! $ move ! (2 ∷ []) $ fsplit ! $ move ! (4 ∷ []) $ fsplit ! $
          keep ! (0 ∷ 2 ∷ []) $ by ! (out_once 𝓛 t.2 Z)
      stored n away = qed 𝓛 (‵ (state R ok b o t n away) ∷ ‵ Offer ∷ []) ∵ fsplit ! $ drop ! $
          fpick ! (λ c. move ! (1 ∷ []) $ fsplit ! $ move ! (1 ∷ []) $ fpick ! (λ z.
          move ! (2 ∷ 1 ∷ 0 ∷ []) $ by ! (returns c z)))

      module _ (q : Share) where
        abbrev I : Fml
        I = Inv R ok b o t

        pub puts : A.inv (fbor α I) ∗ (A.lft α q ∗ ⟦ Offer ⟧)
            ⊢ asks 𝓛 (block_ptr b (o + 0)) (λ _. new) always (λ _. fsep (flft α q) (gained k))
        puts =
            let e : ℕ = o + 0 in let f : ℕ → ℕ = λ _. new in
            let after : ℕ → Fml = λ _. gained k in
            let G : Pr = base.Logic.ex 𝓤 (Lies 𝓛 α q I b e f always after) in
            let Done : Pr = ⟦ I ⟧ ∗ ⟦ gained k ⟧ in
            borrowed 𝓛 α q I b e f always after ⟦ Offer ⟧ (
            qed 𝓛 (‵ I ∷ ‵ Offer ∷ []) ∵ suffices ! G (upd_i 𝓤 G) $ fpick ! (λ n. fsplit ! $
            show ! (Lies 𝓛 α q I b e f always after) n $ frame ! $
            each ! (λ (_ : Unit {0}). Again 𝓛 α q I b e f always after n) (λ _.
            assume ! (‵ (word b e new)) $ move ! (1 ∷ []) $ fpick ! (λ p. move ! (0 ∷ 2 ∷ []) $
            use2 𝓛 (raw (upd 𝓤 Z)) (stored n p) $ settle 𝓛 Done (‵ St ⊛ ‵ (gained k)) $ split ! $
            suffices ! Done (upd_i 𝓤 Done) $ move ! (2 ∷ 0 ∷ []) $ fjoin ! $
            fpack ! ℕ (λ m. fsep (word b e m) (State R ok b o t m)) new $ done !))))
