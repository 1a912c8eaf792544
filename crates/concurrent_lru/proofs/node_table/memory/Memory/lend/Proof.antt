-- `look` lends the value, and the memory follows it. Assumes `Logic`.
use mathlib.Core.Path.{◌≡◌, refl, sym, subst, ◌∙◌}
use Prim.Native.Nat.{ℕ}
use mathlib.Core.List.{List, [], ◌∷◌, ◌++◌}
use seplogic.Ra.Ura.{Ura}
use base.Fraction.{full_share}
use mir.Syntax.{Fn, named}
use mir.Raw.{raw as bare}
use mir.MapTy.{inst_fn}
use mir.Val.{Val, vptr}
use base.Logic.{SProp, ent, sep, never, id⊢}
use base.Fml.{Lft, GName, Share, Fml, ftrue, fsep, fat, flft, fobs, fbor}
use prog.Wp.{Env, Calls, Loops, WpFn, Tables}
use types.Logic.{Logic, sem}
use contract.Monad.{fact}
use contract.Running.{tables, tables_of}
use sound.WpLaws.{WpFn-mono}
use types.Kit.{Item, ⋆, ‵, raw, ◌⊛◌, some, later, await, pick, at_ret, ◌$◌, ◌∵◌, !, qed, by, move, keep, use1, use2, split, join, group, rewrite, fsplit, fsplit3, fjoin, fjoin3, fpack, feq_l, suffices, frame, done}
use types.Part.{whole, sub}
use types.Run.{stop, hop, fld, from, of_opd, addr, first, blocks, exec, returns, enter}
use types.ByLocal.{alloc_all, pass_all, free_all, look_at, look_in_at, get, sets, sets_last, env, take_at, give_at}
use types.SemTy.{Body as Borrowed}
use denote.Exit.{no}
use denote.RattleType.{owns}
use denote.Memory.{mem, cell_at as mem_cell_at, part_at, part_of, lone}
use denote.Param.{layout}
use denote.RawPtr.{Ptr, block_ptr, in_a_block, lies_at}
use denote.Ref.{MutBor, MutRef}
use denote.Builtin.{RefMutOf}
use denote.Signature.{plain, mut_ref_to}
use denote.Steps.{nothing, opens}
use denote.Triple.Clauses.{Clauses, Ended, closing}
use denote.Triple.Entry.{on_entry}
use denote.Triple.Spec.{Meets}
use denote.Triple.Walked.{says, needs, Stays, stay_dropped, walk_of, ends_at, Goes-dropped, Goes-spent_ref, walk_Meets}
use denote.Follow.{follows, Part, lends_Part}
use Rattle.std.specs.Prelude.{Option, None, Some, IsSome}
use Rattle.std_alloc.proofs.VecSteps.Shapes.{after}
use Rattle.std_alloc.proofs.RcSteps.{word, word-Good}
use Rattle.std_alloc.proofs.BoxSteps.Form.{Bx, args, R, X}
use Rattle.concurrent_lru.specs.Cells.{cell, cell_at, put_at, slot_at, AtFirst}
use Rattle.concurrent_lru.specs.CellLends.{with_value}
use Rattle.concurrent_lru.proofs.Memory.Walks.{meets_grown, Mr, Ar, Mark, One, Owns, All, word_had, cell_out, cell_in}
use Rattle.concurrent_lru.proofs.Memory.CellSlots.{first_value, slot_of_held, value_at_slot, put_same, put_twice, write_is_put}
use Rattle.concurrent_lru.specs.contracts.node_table.memory.Memory.lend.Key.{name as #self}
use Rattle.concurrent_lru.proofs.node_table.memory.Memory.lend.Statement as stated
use Rattle.concurrent_lru.proofs.node_table.memory.Memory.lend.Code as code

module _ (E : Bx) where
  abbrev function : Fn
  function = inst_fn (args E) code.function

  abbrev ended : Ended
  ended = record { signature = record { lifetimes = 1; outlives = []; params = RefMutOf (0 ∷ []) tt (plain (λ _. Mr E)) (λ _. tt) ∷ plain (λ _. Ar E) ∷ []; result = RefMutOf (0 ∷ []) tt (plain (λ _. R E)) (λ _. tt) }; kept = (no, (no, tt)) }

  abbrev stayed : Stays ended.signature.params ended.kept
  stayed = (stay_dropped (mut_ref_to (0 ∷ []) tt (plain (λ _. Mr E))) no, (stay_dropped (plain (λ _. Ar E)) no, tt))

  abbrev Asks : (Mr E).Denot → (Ar E).Denot → Type 0
  Asks d at = IsSome (slot_at d.cells at.ptr)

  abbrev Gives0 : (Mr E).Denot → (Ar E).Denot → MutBor (X E) → Type 0
  Gives0 d at r = AtFirst d.cells at.ptr (λ _ c. r.now ≡ c.value)

  abbrev spec : {M : Type 1} {𝓤 : Ura M} (𝓛 : Logic 𝓤) → Clauses 𝓤 ended
  spec {𝓤 = 𝓤} 𝓛 κs a = record { ghost = Unit {0}; requires = λ _. fact 𝓤 (Asks a.0.now a.1.0); ensures = λ _ r w. sep 𝓤 (sem 𝓛 (follows (Mr E) (R E) a.0.ghost_name r.ghost_name (with_value a.0.now a.1.0.ptr))) (fact 𝓤 (Gives0 a.0.now a.1.0 r)) }

module _ (E : Bx) {M : Type 1} {𝓤 : Ura M} (𝓛 : Logic 𝓤) (C : Calls 𝓤 𝓛.H) (Λ : Loops 𝓤 𝓛.H) (κ : Lft) (q : Share) (rb ro : ℕ) (γ : GName) (d : (Mr E).Denot) (at : (Ar E).Denot) (us0 us1 : List Val) where
  open 𝓛 use {H, A}

  abbrev self : MutBor (Mr E).Denot
  self = record { ref_ptr = (rb, ro); ghost_name = γ; now = d }

  abbrev bound : (walk_of 𝓛 (ended E) (stayed E) (spec E 𝓛)).Ghost
  bound = (((κ, tt), (q, tt), tt, (self, (at, tt)), (us0, (us1, tt))), tt)

  abbrev Post : Val → SProp 𝓤
  Post = (walk_of 𝓛 (ended E) (stayed E) (spec E 𝓛)).post bound

  abbrev new : X E → (Mr E).Denot
  new = with_value d at.ptr

  module _ (c : One E) (vs : List Val) (b o : ℕ) where
    -- all but the value
    abbrev Rest : ℕ → Fml
    Rest slot = fsep (E.al.g.dealloc_token c.alloc (bare (lone (R E).mir)) c.at) (fsep (All E (put_at slot None d.cells)) (fsep ((Mark E).own_val (tt, tt) vs) (mem_cell_at full_share (Mr E).mir vs rb ro)))

    back : (slot : ℕ) → slot_at d.cells at.ptr ≡ Some slot → cell_at d.cells slot ≡ Some c → c.at ≡ block_ptr b o
        → (w : X E) → ent 𝓤 (sep 𝓤 (sem 𝓛 ((mem (R E)).own_at w b o)) (sem 𝓛 (Rest slot))) (sem 𝓛 ((mem (Mr E)).own_at (new w) rb ro))
    unfolding part_of
    back slot holds is e w =
        let m : One E = cell c.at c.alloc w in
        let others : List (Option (One E)) = put_at slot None d.cells in
        let written : (new w).cells ≡ put_at slot (Some m) others = write_is_put d.cells at.ptr w slot c holds is ∙ sym (put_twice slot (Some m) None d.cells) in
        qed 𝓛 (‵ (part_at (R E) full_share w b o) ∷ ‵ (Rest slot) ∷ []) ∵ rewrite ! 0 (λ (p : Ptr). ‵ (lies_at (R E) full_share p w)) (sym e) refl $
        move ! (1 ∷ []) $ fsplit3 ! $ move ! (2 ∷ []) $ fsplit ! $ move ! (4 ∷ 2 ∷ []) $ fjoin ! $ move ! (0 ∷ 3 ∷ []) $
        use2 𝓛 (‵ (All E (put_at slot (Some m) others))) (cell_in E 𝓛 others slot m (put_same slot None d.cells)) $ rewrite ! 0 (λ (cs : List (Option (One E))). ‵ (All E cs)) (sym written) refl $
        move ! (1 ∷ 0 ∷ []) $ fjoin ! $ move ! (1 ∷ 0 ∷ []) $ fjoin ! $
        fpack ! (List Val) (λ us. fsep (mem_cell_at full_share (Mr E).mir us rb ro) ((Mr E).own_val (new w) us)) vs $ done !

  exits : (v : Val) (r : MutBor (X E)) → Gives0 E d at r
      → ent 𝓤 (sep 𝓤 (sem 𝓛 ((MutRef (named 0) κ (R E)).own_val r (v ∷ []))) (sep 𝓤 (A.lft κ q) (sem 𝓛 (follows (Mr E) (R E) γ r.ghost_name new)))) (Post v)
  exits v r e =
      qed 𝓛 (‵ ((MutRef (named 0) κ (R E)).own_val r (v ∷ [])) ∷ ‵ (flft κ q) ∷ ‵ (follows (Mr E) (R E) γ r.ghost_name new) ∷ []) ∵
      suffices ! _ (ends_at 𝓛 (ended E) (stayed E) (spec E 𝓛) bound v r (tt, (tt, tt)) (tt, (tt, tt))) $
      nothing ! $ nothing ! $ fjoin ! $ nothing ! $ fjoin ! $ join ! $ nothing ! $ move ! (2 ∷ 0 ∷ []) $ join ! $ join ! $ frame ! $ says ! e $ done !

  abbrev Had : List (Item 𝓤)
  Had = ‵ (fobs γ ((Mr E).coded.code d)) ∷ ‵ (fbor κ (Borrowed (mem (Mr E)) rb ro γ)) ∷ ‵ (flft κ q) ∷ []

  walk : Asks E d at → ent 𝓤 (⋆ 𝓛 Had) (WpFn 𝓤 H C Λ (function E) (vptr rb ro ∷ word at.ptr ∷ []) Post)
  walk asked =
      let held = slot_of_held d.cells at.ptr asked in let slot = held.0 in let there = value_at_slot d.cells at.ptr slot held.1 in let c : One E = there.0 in
      let code = (Mr E).coded.code d in
      qed 𝓛 Had ∵ enter ! C Λ (function E) (vptr rb ro ∷ word at.ptr ∷ []) _ $ alloc_all ! (λ l. pass_all ! refl ((tt, tt), (word-Good [] at.ptr, tt)) $
      let En : Env 𝓤 H = env (function E).locals l in
      opens ! tt (Mr E) {h = d} rb ro (λ vs. move ! (1 ∷ []) $ fsplit ! $ move ! (1 ∷ []) $
      use1 𝓛 (‵ (Owns E (Some c)) ⊛ ‵ (All E (put_at slot None d.cells))) (cell_out E 𝓛 d.cells slot c there.1) $ split ! $ fsplit ! $
      in_a_block ! c.at (λ p. lies_at (R E) full_share p c.value) (id⊢ 𝓤 (never 𝓤)) (λ b o e.
      -- [the value; its token; the others; the mark; its cell; the open borrow; obs; auth]
      let way = back c vs b o slot held.1 there.1 e in
      take_at ! 2 $ rewrite ! 0 (λ (p : Ptr). ‵ (fat full_share (layout (Ar E)) (l 2) 0 (word p))) (sym there.2 ∙ e) refl $ give_at ! 2 $
      first ! $ blocks ! $ sets_last ! (addr ! (from ! (fld ! refl (hop ! (look_in_at ! 2 (sub ! 0 refl (whole !))) (stop !))))) refl (tt, tt) $ exec ! C Λ En (after 1 (function E).body) (at_ret En Post) $ sets ! (of_opd ! (get ! refl)) refl (tt, tt) $
      move ! (2 ∷ 3 ∷ 4 ∷ []) $ fjoin3 ! $ move ! (2 ∷ 0 ∷ []) $ fjoin ! $ move ! (2 ∷ 3 ∷ 4 ∷ 1 ∷ 0 ∷ []) $ group ! 5 $
      use1 𝓛 (later (some (λ (δ : GName). raw (Part 𝓛 (Mr E) (R E) new (named 0) κ q rb ro b o γ (sem 𝓛 (Rest c vs b o slot)) way c.value δ))))
      (lends_Part 𝓛 (Mr E) (R E) new (named 0) κ q rb ro b o γ (sem 𝓛 (Rest c vs b o slot)) way code code c.value) $ await ! tt $ pick ! (λ δ.
      returns ! (look_at ! 0 refl) $ free_all ! refl $ keep ! (0 ∷ []) $ by ! (exits (vptr b o) (record { ref_ptr = (b, o); ghost_name = δ; now = c.value }) (first_value d.cells at.ptr slot c held.1 there.1))))))

  entry : Asks E d at → ent 𝓤 (on_entry 𝓛 (ended E).signature (κ, tt) (q, tt) (self, (at, tt)) (us0, (us1, tt))) (WpFn 𝓤 H C Λ (function E) (us0 ++ (us1 ++ [])) Post)
  entry asked =
      qed 𝓛 ((‵ (flft κ q) ⊛ ‵ ftrue) ∷ ‵ (owns (MutRef (named 0) κ (Mr E) ∷ Ar E ∷ []) (self, (at, tt)) (us0, (us1, tt))) ∷ []) ∵
      split ! $ move ! (2 ∷ []) $
      fsplit ! $
      fsplit3 ! $ feq_l ! (λ e0.
      move ! (2 ∷ []) $
      fsplit ! $
      word_had ! at.ptr us1 (λ e1.
      keep ! (1 ∷ 2 ∷ 3 ∷ []) $
      by ! (subst (λ (ws : List Val × List Val). ent 𝓤 (⋆ 𝓛 Had) (WpFn 𝓤 H C Λ (function E) (ws.0 ++ (ws.1 ++ [])) Post)) (λ j. (sym e0 j, sym e1 j)) (walk asked))))

meets : (E : Bx) {M : Type 1} {𝓤 : Ura M} (𝓛 : Logic 𝓤) (𝓣 : Tables 𝓤 𝓛.H)
    → Meets 𝓛 (ended E).signature (WpFn 𝓤 𝓛.H 𝓣.C 𝓣.Λ (function E)) (closing 𝓛 (ended E) (spec E 𝓛))
meets E {𝓤 = 𝓤} 𝓛 𝓣 =
    walk_Meets 𝓛 (ended E) (stayed E) (Goes-spent_ref 𝓛 1 (0 ∷ []) tt (plain (λ _. Mr E)), (Goes-dropped 𝓛 1 (plain (λ _. Ar E)) no (λ κs x f. refl), tt)) (spec E 𝓛) (WpFn 𝓤 𝓛.H 𝓣.C 𝓣.Λ (function E)) (WpFn-mono 𝓤 𝓛.H 𝓛.laws 𝓣 (function E))
    (λ z. needs 𝓤 (Asks E z.0.3.0.now z.0.3.1.0) _ (entry E 𝓛 𝓣.C 𝓣.Λ z.0.0.0 z.0.1.0 z.0.3.0.ref_ptr.0 z.0.3.0.ref_ptr.1 z.0.3.0.ghost_name z.0.3.0.now z.0.3.1.0 z.0.4.0 z.0.4.1.0))

pub lend_spec : {M : Type 1} → stated.statement M
unfolding tables_of
lend_spec 𝓤 𝓛 𝓜 𝓡 wired Y Z L LZ g d dd met md y =
    let E : Bx = record { row = Y; laws = L; al = record { row = Z; laws = LZ; g = g; d = d; drops = dd } } in
    meets_grown 𝓛 𝓜 𝓡 E (ended E) (spec E 𝓛) (#self (args E)) (function E) (code.unfolded 𝓤 𝓛.H 𝓜 𝓡 wired (Y, (Z, tt)) d dd) (meets E 𝓛 (tables_of 𝓤 𝓛.H 𝓜 (tables 𝓤 𝓛.H 𝓜 𝓡 𝓡.env))) ((y.0.0, y.0.1, tt, y.0.3, y.0.4), y.1)
