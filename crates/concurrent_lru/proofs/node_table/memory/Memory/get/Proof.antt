-- `get` shows the value that the memory lends. Assumes `Logic`.
use mathlib.Core.Path.{◌≡◌, refl, sym, subst, ◌∙◌}
use Prim.Native.Nat.{ℕ}
use mathlib.Core.List.{List, [], ◌∷◌, ◌++◌}
use seplogic.Ra.Ura.{Ura}
use base.Fraction.{full_share}
use mir.Syntax.{Fn, named}
use mir.MapTy.{inst_fn}
use mir.Val.{Val, vptr}
use base.Logic.{SProp, ent, never, fst∗}
use base.Fml.{Lft, Share, ftrue, fat, flft}
use prog.Wp.{Env, Calls, Loops, WpFn, Tables}
use types.Logic.{Logic, sem}
use contract.Monad.{fact}
use contract.Running.{tables, tables_of}
use sound.WpLaws.{WpFn-mono}
use types.Kit.{Item, ⋆, ‵, ◌⊛◌, at_ret, ◌$◌, ◌∵◌, !, qed, by, move, keep, drop, use1, split, join, rewrite, fsplit, fjoin, feq_i, feq_l, suffices, frame, done}
use types.Part.{whole, sub}
use types.Run.{stop, hop, fld, from, of_opd, addr, first, blocks, exec, returns, enter}
use types.ByLocal.{alloc_all, pass_all, free_all, look_at, look_in_at, get, sets, sets_last, env, take_at, give_at}
use denote.Exit.{yes, no}
use denote.RattleType.{owns}
use denote.Memory.{hidden_shr, shared_of}
use denote.Param.{layout}
use denote.RawPtr.{Ptr, in_a_block}
use denote.Ref.{Bor, ShrRef}
use denote.Builtin.{RefOf}
use denote.Signature.{plain}
use denote.Opens.{hide, unhide}
use denote.Steps.{nothing}
use denote.Struct.Lending.{lent_at}
use denote.Triple.Clauses.{Clauses, Ended, closing}
use denote.Triple.Entry.{on_entry}
use denote.Triple.Spec.{Meets}
use denote.Triple.Walked.{says, needs, Stays, stay_dropped, walk_of, ends_at, Goes-dropped, walk_Meets}
use Rattle.std.specs.Prelude.{IsSome}
use Rattle.std_alloc.proofs.VecSteps.Shapes.{after}
use Rattle.std_alloc.proofs.RcSteps.{word, word-Good}
use Rattle.std_alloc.proofs.BoxSteps.Form.{Bx, args, R, X}
use Rattle.concurrent_lru.specs.Cells.{slot_at, AtFirst}
use Rattle.concurrent_lru.proofs.Memory.Walks.{meets_grown, Mr, Ar, One, word_had, cell_seen}
use Rattle.concurrent_lru.proofs.Memory.CellSlots.{first_value, slot_of_held, value_at_slot}
use Rattle.concurrent_lru.specs.contracts.node_table.memory.Memory.get.Key.{name as #self}
use Rattle.concurrent_lru.proofs.node_table.memory.Memory.get.Statement as stated
use Rattle.concurrent_lru.proofs.node_table.memory.Memory.get.Code as code

module _ (E : Bx) where
  abbrev function : Fn
  function = inst_fn (args E) code.function

  abbrev ended : Ended
  ended = record { signature = record { lifetimes = 1; outlives = []; params = RefOf (0 ∷ []) tt (plain (λ _. Mr E)) (λ _. tt) ∷ plain (λ _. Ar E) ∷ []; result = RefOf (0 ∷ []) tt (plain (λ _. R E)) (λ _. tt) }; kept = (yes, (no, tt)) }

  abbrev stayed : Stays ended.signature.params ended.kept
  stayed = (stay_dropped (RefOf (0 ∷ []) tt (plain (λ _. Mr E)) (λ _. tt)) yes, (stay_dropped (plain (λ _. Ar E)) no, tt))

  abbrev Asks : (Mr E).Denot → (Ar E).Denot → Type 0
  Asks d at = IsSome (slot_at d.cells at.ptr)

  abbrev Gives0 : (Mr E).Denot → (Ar E).Denot → Bor (X E) → Type 0
  Gives0 d at r = AtFirst d.cells at.ptr (λ _ c. r.now ≡ c.value)

  abbrev spec : {M : Type 1} {𝓤 : Ura M} (𝓛 : Logic 𝓤) → Clauses 𝓤 ended
  spec {𝓤 = 𝓤} 𝓛 κs a = record { ghost = Unit {0}; requires = λ _. fact 𝓤 (Asks a.0.now a.1.0); ensures = λ _ r w. fact 𝓤 (Gives0 a.0.now a.1.0 r) }

module _ (E : Bx) {M : Type 1} {𝓤 : Ura M} (𝓛 : Logic 𝓤) (C : Calls 𝓤 𝓛.H) (Λ : Loops 𝓤 𝓛.H) (κ : Lft) (q : Share) (rb ro : ℕ) (d : (Mr E).Denot) (at : (Ar E).Denot) (us0 us1 : List Val) where
  open 𝓛 use {H, A}

  abbrev self : Bor (Mr E).Denot
  self = record { ref_ptr = (rb, ro); now = d }

  abbrev bound : (walk_of 𝓛 (ended E) (stayed E) (spec E 𝓛)).Ghost
  bound = (((κ, tt), (q, tt), tt, (self, (at, tt)), (us0, (us1, tt))), tt)

  abbrev Post : Val → SProp 𝓤
  Post = (walk_of 𝓛 (ended E) (stayed E) (spec E 𝓛)).post bound

  exits : (r : (ShrRef (named 0) κ (R E)).Denot) (v : Val) → Gives0 E d at r → ent 𝓤 (⋆ 𝓛 (‵ (flft κ q) ∷ ‵ ((ShrRef (named 0) κ (R E)).own_val r (v ∷ [])) ∷ [])) (Post v)
  exits r v g0 =
      qed 𝓛 (‵ (flft κ q) ∷ ‵ ((ShrRef (named 0) κ (R E)).own_val r (v ∷ [])) ∷ []) ∵
      suffices ! _ (ends_at 𝓛 (ended E) (stayed E) (spec E 𝓛) bound v r (tt, (tt, tt)) (tt, (tt, tt))) $ says ! g0 $
      nothing ! $ move ! (1 ∷ 0 ∷ []) $ join ! $ frame ! $ nothing ! $ nothing ! $ fjoin ! $ nothing ! $ fjoin ! $ done !

  abbrev Had : List (Item 𝓤)
  Had = ‵ (hidden_shr (Mr E) κ d rb ro) ∷ ‵ (flft κ q) ∷ []

  walk : Asks E d at → ent 𝓤 (⋆ 𝓛 Had) (WpFn 𝓤 H C Λ (function E) (vptr rb ro ∷ word at.ptr ∷ []) Post)
  walk asked =
      let held = slot_of_held d.cells at.ptr asked in let slot = held.0 in let there = value_at_slot d.cells at.ptr slot held.1 in let c : One E = there.0 in
      qed 𝓛 Had ∵ enter ! C Λ (function E) (vptr rb ro ∷ word at.ptr ∷ []) _ $ alloc_all ! (λ l. pass_all ! refl ((tt, tt), (word-Good [] at.ptr, tt)) $
      let En : Env 𝓤 H = env (function E).locals l in
      unhide ! $ fsplit ! $ drop ! $
      use1 𝓛 (‵ (lent_at (R E) c.at c.value κ)) (cell_seen E 𝓛 κ d.cells slot c there.1) $
      in_a_block ! c.at (λ p. lent_at (R E) p c.value κ) (fst∗ 𝓤 (never 𝓤) (sem 𝓛 (shared_of (R E) c.value 0 0 κ))) (λ b o e.
      take_at ! 2 $ rewrite ! 0 (λ (p : Ptr). ‵ (fat full_share (layout (Ar E)) (l 2) 0 (word p))) (sym there.2 ∙ e) refl $ give_at ! 2 $
      first ! $ blocks ! $
      sets_last ! (addr ! (from ! (fld ! refl (hop ! (look_in_at ! 2 (sub ! 0 refl (whole !))) (stop !))))) refl (tt, tt) $ exec ! C Λ En (after 1 (function E).body) (at_ret En Post) $ sets ! (of_opd ! (get ! refl)) refl (tt, tt) $
      fsplit ! $ drop ! $ hide ! $ feq_i ! (List Val) (vptr b o ∷ []) (vptr b o ∷ []) refl $ fjoin ! $
      returns ! (look_at ! 0 refl) $ free_all ! refl $ keep ! (1 ∷ 0 ∷ []) $ by ! (exits (record { ref_ptr = (b, o); now = c.value }) (vptr b o) (first_value d.cells at.ptr slot c held.1 there.1))))

  entry : Asks E d at → ent 𝓤 (on_entry 𝓛 (ended E).signature (κ, tt) (q, tt) (self, (at, tt)) (us0, (us1, tt))) (WpFn 𝓤 H C Λ (function E) (us0 ++ (us1 ++ [])) Post)
  entry asked =
      qed 𝓛 ((‵ (flft κ q) ⊛ ‵ ftrue) ∷ ‵ (owns (ShrRef (named 0) κ (Mr E) ∷ Ar E ∷ []) (self, (at, tt)) (us0, (us1, tt))) ∷ []) ∵
      split ! $ move ! (2 ∷ []) $
      fsplit ! $
      fsplit ! $ feq_l ! (λ e0.
      move ! (1 ∷ []) $
      fsplit ! $
      word_had ! at.ptr us1 (λ e1.
      keep ! (1 ∷ 2 ∷ []) $
      by ! (subst (λ (ws : List Val × List Val). ent 𝓤 (⋆ 𝓛 Had) (WpFn 𝓤 H C Λ (function E) (ws.0 ++ (ws.1 ++ [])) Post)) (λ j. (sym e0 j, sym e1 j)) (walk asked))))

meets : (E : Bx) {M : Type 1} {𝓤 : Ura M} (𝓛 : Logic 𝓤) (𝓣 : Tables 𝓤 𝓛.H)
    → Meets 𝓛 (ended E).signature (WpFn 𝓤 𝓛.H 𝓣.C 𝓣.Λ (function E)) (closing 𝓛 (ended E) (spec E 𝓛))
meets E {𝓤 = 𝓤} 𝓛 𝓣 =
    walk_Meets 𝓛 (ended E) (stayed E) (Goes-dropped 𝓛 1 (RefOf (0 ∷ []) tt (plain (λ _. Mr E)) (λ _. tt)) yes (λ κs x f. refl), (Goes-dropped 𝓛 1 (plain (λ _. Ar E)) no (λ κs x f. refl), tt)) (spec E 𝓛) (WpFn 𝓤 𝓛.H 𝓣.C 𝓣.Λ (function E)) (WpFn-mono 𝓤 𝓛.H 𝓛.laws 𝓣 (function E))
    (λ z. needs 𝓤 (Asks E z.0.3.0.now z.0.3.1.0) _ (entry E 𝓛 𝓣.C 𝓣.Λ z.0.0.0 z.0.1.0 z.0.3.0.ref_ptr.0 z.0.3.0.ref_ptr.1 z.0.3.0.now z.0.3.1.0 z.0.4.0 z.0.4.1.0))

pub get_spec : {M : Type 1} → stated.statement M
unfolding tables_of
get_spec 𝓤 𝓛 𝓜 𝓡 wired Y Z L LZ g d dd met md y =
    let E : Bx = record { row = Y; laws = L; al = record { row = Z; laws = LZ; g = g; d = d; drops = dd } } in
    meets_grown 𝓛 𝓜 𝓡 E (ended E) (spec E 𝓛) (#self (args E)) (function E) (code.unfolded 𝓤 𝓛.H 𝓜 𝓡 wired (Y, (Z, tt)) d dd) (meets E 𝓛 (tables_of 𝓤 𝓛.H 𝓜 (tables 𝓤 𝓛.H 𝓜 𝓡 𝓡.env))) ((y.0.0, y.0.1, tt, y.0.3, y.0.4), y.1)
