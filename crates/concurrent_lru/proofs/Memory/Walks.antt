-- What the walks share. Assumes `Logic`.
use mathlib.Core.Path.{◌≡◌, refl, sym, subst}
use Prim.Native.Nat.{ℕ, zero, suc}
use mathlib.Core.List.{List, [], ◌∷◌, ◌++◌}
use seplogic.Ra.Ura.{Ura}
use base.Logic.{SProp, ent, sep, emp, via, fst∗, snd∗}
use base.Fml.{Fml, Lft}
use mir.Syntax.{Callee, Fn}
use prog.Model.{Model}
use prog.Wp.{Closed, WpFn}
use mir.Val.{Val, vstruct, vcons, vnil, of_list}
use types.Logic.{Logic, sem}
use contract.Monad.{fact, fact_i, fact_use}
use contract.Running.{MachineTables, Running, tables}
use types.Kit.{Item, Goal, Seq, Step, step, mean, prop, ‵, raw, ◌⊛◌, ◌$◌, ◌∵◌, !, qed, move, keep, drop, use0, use1, use2, split, frame, fsplit, fjoin, fjoin3, fpick, fpack, feq_i, feq_l, done}
use denote.RattleType.{RattleType, Valss}
use denote.RawPtr.{Ptr, RawPtr, ptr_val}
use denote.Shadow.{makes_shadow}
use denote.Steps.{nothing}
use denote.Struct.Lending.{lent_at}
use denote.Struct.Struct.{Shape, Struct, within}
use denote.Struct.Owning.{shape}
use denote.Struct.Tuple.{Tuple}
use denote.Triple.Carry.{grown, spared}
use denote.Triple.Clauses.{Clauses, Ended, closing}
use denote.Triple.Spec.{Meets, triple_of}
use denote.Triple.Statement.{Triple}
use denote.Triple.Table.{entered, run_framed}
use Rattle.std.specs.Prelude.{Option, Some, None}
use Rattle.std_alloc.proofs.BoxSteps.Form.{Bx, R, P}
use Rattle.std_alloc.proofs.RcSteps.{word}
use Rattle.concurrent_lru.specs.Cells.{Cell, cell_at, put_at}
use Rattle.concurrent_lru.specs.CellOwnership.{cell_owns, cells_own, cell_lent, cells_lent}
use Rattle.concurrent_lru.specs.contracts.node_table.memory.Memory as M-type
use Rattle.concurrent_lru.specs.contracts.node_table.memory.At as A-type

module _ (E : Bx) where
  abbrev pub Mr : RattleType
  Mr = M-type.the_row (R E) (P E) E.al.g

  abbrev pub Ar : RattleType
  Ar = A-type.the_row (R E)

  abbrev pub Mark : RattleType
  Mark = Struct (shape (M-type.the_type (R E) (P E) E.al.g))

  abbrev pub One : Type 0
  One = Cell E.row.Denot E.al.row.Denot

  abbrev pub Owns : Option One → Fml
  Owns = cell_owns (R E) (P E) E.al.g.dealloc_token

  abbrev pub All : List (Option One) → Fml
  All = cells_own (R E) (P E) E.al.g.dealloc_token

abbrev one_field : Shape
one_field = record { name = []; args = []; types = []; fields = RawPtr ∷ [] }

abbrev pub Word : RattleType
Word = Struct one_field

abbrev pub mark : Val
mark = vstruct (vcons (vstruct vnil) vnil)

pub mark_made : (E : Bx) {M : Type 1} {𝓤 : Ura M} (𝓛 : Logic 𝓤) → ent 𝓤 (emp 𝓤) (sem 𝓛 ((Mark E).own_val (tt, tt) (mark ∷ [])))
mark_made E 𝓛 = makes_shadow 𝓛 ((Mark E).own_val (tt, tt) (mark ∷ [])) (λ vss. (tt, ((λ uss. (tt, tt)), tt))) ((vstruct vnil ∷ [], tt), (refl, ((tt, (refl, tt)), tt)))

module _ {M : Type 1} {𝓤 : Ura M} {𝓛 : Logic 𝓤} {K : Type 0} {Γ : List (Item 𝓤)} {G : Goal 𝓤 𝓛.H} where
  pub word_had : K → (c : Ptr) (vs : List Val) → (vs ≡ word c ∷ [] → Seq K 𝓛 Γ G) → Seq K 𝓛 (‵ (Word.own_val (c, tt) vs) ∷ Γ) G
  word_had t c vs k = fpick t (λ vss. fsplit t $ feq_l t (λ ev. fsplit t $ feq_l t (λ e. drop t $ k (subst (λ (ws : List Val). vs ≡ vstruct (of_list (ws ++ [])) ∷ []) e ev))))

  pub word_made : K → (c : Ptr) → Step K 𝓛 (‵ (Word.own_val (c, tt) (word c ∷ [])) ∷ Γ) G Γ G
  word_made t c = step (λ s.
      nothing t $ feq_i t (List Val) (ptr_val c ∷ []) (ptr_val c ∷ []) refl $ fjoin t $ feq_i t (List Val) (word c ∷ []) (word c ∷ []) refl $ fjoin t $
      fpack t (Valss (RawPtr ∷ [])) (within one_field (c, tt) (word c ∷ [])) (ptr_val c ∷ [], tt) $ s)

module _ {M : Type 1} {𝓤 : Ura M} {𝓛 : Logic 𝓤} {K : Type 0} {Γ : List (Item 𝓤)} where
  -- an `ensures` of two facts
  pub says_both : K → {φ ψ : Type 0} {P : SProp 𝓤} → φ → ψ → Step K 𝓛 Γ (prop P) Γ (prop (sep 𝓤 P (sep 𝓤 (fact 𝓤 φ) (fact 𝓤 ψ))))
  says_both t {φ} {ψ} {P} x y = step (λ s. record {
    prf = via 𝓤 P s.prf (qed 𝓛 (raw P ∷ []) {P = sep 𝓤 P (sep 𝓤 (fact 𝓤 φ) (fact 𝓤 ψ))} (
        frame ! $ use0 𝓛 (raw (fact 𝓤 ψ)) (fact_i 𝓤 ψ (emp 𝓤) y) $ use0 𝓛 (raw (fact 𝓤 φ)) (fact_i 𝓤 φ (emp 𝓤) x) $ done !));
  })

module _ {M : Type 1} {𝓤 : Ura M} {𝓛 : Logic 𝓤} {K : Type 0} {Γ : List (Item 𝓤)} {G : Goal 𝓤 𝓛.H} where
  -- the first two entries stay, and what they show is known from then on
  pub known : K → {i j : Item 𝓤} (φ : Type 0) → ent 𝓤 (sep 𝓤 (mean 𝓛 i) (mean 𝓛 j)) (fact 𝓤 φ) → (φ → Seq K 𝓛 (i ∷ j ∷ Γ) G) → Seq K 𝓛 (i ∷ j ∷ Γ) G
  known t {i} {j} φ shows on =
      let first : Seq K 𝓛 (i ∷ j ∷ Γ) (prop (fact 𝓤 φ)) = use2 𝓛 (raw (fact 𝓤 φ)) shows $ keep t (0 ∷ []) $ done t in
      record { prf = fact_use 𝓤 φ first.prf (λ x. (on x).prf) }

-- a pair of two machine values
abbrev pub two : Val → Val → Val
two v w = vstruct (vcons v (vcons w vnil))

module _ (P Q : RattleType) {M : Type 1} {𝓤 : Ura M} {𝓛 : Logic 𝓤} {K : Type 0} {Γ : List (Item 𝓤)} {G : Goal 𝓤 𝓛.H} where
  -- a pair is made of its parts
  pub pair_in : K → (x : P.Denot) (y : Q.Denot) (v w : Val) → Step K 𝓛 (‵ ((Tuple (P ∷ Q ∷ [])).own_val (x, y) (two v w ∷ [])) ∷ Γ) G (‵ (P.own_val x (v ∷ [])) ∷ ‵ (Q.own_val y (w ∷ [])) ∷ Γ) G
  pair_in t x y v w = step (λ s. nothing t $ move t (1 ∷ 2 ∷ 0 ∷ []) $ fjoin3 t $ feq_i t (List Val) (two v w ∷ []) (two v w ∷ []) refl $ fjoin t $
      fpack t (Valss (P ∷ Q ∷ [])) (within (record { name = []; args = []; types = []; fields = P ∷ Q ∷ [] }) (x, (y, tt)) (two v w ∷ [])) (v ∷ [], (w ∷ [], tt)) $ s)

module _ (E : Bx) {M : Type 1} {𝓤 : Ura M} (𝓛 : Logic 𝓤) where
  -- the value in a slot is taken out of the others
  pub cell_out : (cs : List (Option (One E))) (k : ℕ) (c : One E) → cell_at cs k ≡ Some c → ent 𝓤 (sem 𝓛 (All E cs)) (sep 𝓤 (sem 𝓛 (Owns E (Some c))) (sem 𝓛 (All E (put_at k None cs))))
  cell_out [] k c e = cc
  cell_out (x ∷ cs) zero c e =
      subst (λ (y : Option (One E)). ent 𝓤 (sem 𝓛 (All E (y ∷ cs))) (sep 𝓤 (sem 𝓛 (Owns E (Some c))) (sem 𝓛 (All E (None ∷ cs))))) (sym e)
      (qed 𝓛 (‵ (All E (Some c ∷ cs)) ∷ []) ∵ fsplit ! $ frame ! $ nothing ! $ fjoin ! $ done !)
  cell_out (x ∷ cs) (suc k) c e = qed 𝓛 (‵ (All E (x ∷ cs)) ∷ []) ∵ fsplit ! $ move ! (1 ∷ []) $
      use1 𝓛 (‵ (Owns E (Some c)) ⊛ ‵ (All E (put_at k None cs))) (cell_out cs k c e) $ split ! $ frame ! $ move ! (1 ∷ 0 ∷ []) $ fjoin ! $ done !

  -- and one is put in a slot that has none
  pub cell_in : (cs : List (Option (One E))) (k : ℕ) (c : One E) → cell_at cs k ≡ None → ent 𝓤 (sep 𝓤 (sem 𝓛 (Owns E (Some c))) (sem 𝓛 (All E cs))) (sem 𝓛 (All E (put_at k (Some c) cs)))
  cell_in [] zero c e = qed 𝓛 (‵ (Owns E (Some c)) ∷ ‵ (All E []) ∷ []) ∵ fjoin ! $ done !
  cell_in [] (suc k) c e = qed 𝓛 (‵ (Owns E (Some c)) ∷ ‵ (All E []) ∷ []) ∵ use2 𝓛 (‵ (All E (put_at k (Some c) []))) (cell_in [] k c refl) $ nothing ! $ fjoin ! $ done !
  cell_in (x ∷ cs) zero c e =
      subst (λ (y : Option (One E)). ent 𝓤 (sep 𝓤 (sem 𝓛 (Owns E (Some c))) (sem 𝓛 (All E (y ∷ cs)))) (sem 𝓛 (All E (Some c ∷ cs)))) (sym e)
      (qed 𝓛 (‵ (Owns E (Some c)) ∷ ‵ (All E (None ∷ cs)) ∷ []) ∵ move ! (1 ∷ []) $ fsplit ! $ drop ! $ move ! (1 ∷ 0 ∷ []) $ fjoin ! $ done !)
  cell_in (x ∷ cs) (suc k) c e = qed 𝓛 (‵ (Owns E (Some c)) ∷ ‵ (All E (x ∷ cs)) ∷ []) ∵ move ! (1 ∷ []) $ fsplit ! $ move ! (2 ∷ 1 ∷ []) $
      use2 𝓛 (‵ (All E (put_at k (Some c) cs))) (cell_in cs k c e) $ move ! (1 ∷ 0 ∷ []) $ fjoin ! $ done !

  pub cell_seen : (κ : Lft) (cs : List (Option (One E))) (k : ℕ) (c : One E) → cell_at cs k ≡ Some c → ent 𝓤 (sem 𝓛 (cells_lent (R E) (P E) cs κ)) (sem 𝓛 (lent_at (R E) c.at c.value κ))
  cell_seen κ [] k c e = cc
  cell_seen κ (x ∷ cs) zero c e =
      subst (λ (y : Option (One E)). ent 𝓤 (sem 𝓛 (cells_lent (R E) (P E) (y ∷ cs) κ)) (sem 𝓛 (lent_at (R E) c.at c.value κ))) (sym e) (fst∗ 𝓤 (sem 𝓛 (lent_at (R E) c.at c.value κ)) (sem 𝓛 (cells_lent (R E) (P E) cs κ)))
  cell_seen κ (x ∷ cs) (suc k) c e = via 𝓤 _ (snd∗ 𝓤 (sem 𝓛 (cell_lent (R E) (P E) x κ)) (sem 𝓛 (cells_lent (R E) (P E) cs κ))) (cell_seen κ cs k c e)

module _ {M : Type 1} {𝓤 : Ura M} (𝓛 : Logic 𝓤) (𝓜 : Model 𝓤 𝓛.H) (𝓡 : Running 𝓤 𝓛.H 𝓜) (E : Bx) (T : Ended) (c : Clauses 𝓤 T) where
  abbrev 𝓣 : MachineTables 𝓤 𝓛.H 𝓜
  𝓣 = tables 𝓤 𝓛.H 𝓜 𝓡 𝓡.env

  -- a method whose body meets its clauses meets them within the lifetimes of its types
  pub meets_grown : (k : Callee) (e : Fn) → Closed 𝓤 𝓛.H 𝓣.C 𝓣.Λ k e → Meets 𝓛 T.signature (WpFn 𝓤 𝓛.H 𝓣.C 𝓣.Λ e) (closing 𝓛 T c) → Triple 𝓤 (𝓡.run (𝓡.env k)) (grown 𝓛 T.signature 2 (E.row.lives, (E.al.row.lives, tt)) (closing 𝓛 T c))
  meets_grown k e closed met =
      spared 𝓛 T.signature (𝓡.run (𝓡.env k)) (run_framed 𝓤 𝓛.H 𝓜 𝓡 (𝓡.env k)) 2 (E.row.lives, (E.al.row.lives, tt)) (closing 𝓛 T c) (entered 𝓤 𝓛.H (triple_of 𝓛 T.signature (closing 𝓛 T c)) 𝓣.C 𝓣.Λ k e closed met)
