-- A pointer of C lends what it leads to, as a box does.
use mathlib.Core.Path.{◌≡◌, refl, sym, subst, ap, ◌∙◌}
use Prim.Native.Nat.{ℕ}
use mathlib.Core.Bool.{true}
use mathlib.Core.List.{List, [], ◌∷◌, ◌++◌}
use seplogic.Ra.Ura.{Ura}
use base.Fraction.{full_share}
use mir.Syntax.{Fn, Sym, Ty, named, erased, mut, ty_ptr, ty_ref, ty_struct, local, value_local, place, deref, field, copy, rv_opd, addr_of, seq, assign, block, return}
use mir.Val.{Val, vptr, vstruct, of_list}
use mir.Raw.{raw as bare}
use base.Logic.{SProp, ent, sep, never, fst∗}
use base.Fml.{Lft, GName, Share, Fml, ftrue, flft, fsep}
use prog.Wp.{Env, Calls, Loops, WpFn, Tables}
use types.Logic.{Logic, sem}
use contract.Monad.{fact}
use sound.WpLaws.{WpFn-mono}
use types.Kit.{‵, ◌⊛◌, some, at_ret, ◌$◌, ◌∵◌, !, qed, by, move, keep, use1, drop, split, join, pick, rewrite, fsplit, fsplit3, fjoin, fpick, feq_l, feq_i, suffices, frame, done, raw, later, await, group, fpack}
use types.Part.{whole, sub, look_in}
use types.Run.{stop, fld, load, of_opd, first, blocks, exec, returns, enter, addr}
use types.ByLocal.{alloc_all, pass_all, free_all, look_at, get, through, sets, env, sets_last}
use denote.RattleType.{RattleType, Valss, owns}
use denote.Memory.{part_at, mem, cell_at, part_of, lone}
use denote.RawPtr.{Ptr, block_ptr, null_ptr, ptr_val, in_a_block}
use denote.Ref.{MutBor, MutRef, mut_vals, mut_Tells}
use denote.Signature.{plain, mut_ref_to}
use denote.Steps.{nothing, opens}
use denote.Struct.Struct.{within}
use denote.Triple.Clauses.{closing, Clauses, Ended}
use denote.Triple.Entry.{on_entry}
use denote.Triple.Spec.{Meets}
use denote.Triple.Walked.{says, needs, Stays, stay_dropped, walk_of, ends_at, walked, walk_Meets, Goes-spent_ref}
use denote.Exit.{no}
use denote.Follow.{follows, Part, lends_Part}
use Rattle.core.proofs.alloc.Calls.{handle_tells}
use Rattle.std.specs.Prelude.{Option, Some, None, is_some}
use Rattle.std_alloc.proofs.VecSteps.Shapes.{after}
use Rattle.std_alloc.specs.Box.Ownership.{box_owns}
use Rattle.std_heap.specs.contracts.Global as Heap
use Rattle.std_heap.specs.contracts.GlobalAllocator.TheImpl.{ghosts}
use Rattle.lru_c.specs.Held.{held_owns}
use Rattle.lru_c.proofs.Moved.{Z, Fields, two, word, Form}

-- the function, where the value that the pointer leads to has this type; what stands behind a
-- reference is as it is written
abbrev pub lending : Sym → Ty → Ty → Ty → Fn
lending name value written here = record {
  lifetimes = 1;
  outlives = [];
  ty_params = [];
  givens = 0;
  params = 1;
  locals = local (ty_ref (named 0) mut written) value_local ∷ local (ty_ref (named 0) mut here) value_local ∷ local (ty_ref erased mut written) value_local ∷ local ty_ptr value_local ∷ local ty_ptr value_local ∷ [];
  body = seq (block (seq (assign (place 3 []) (rv_opd (copy (place 1 (deref (ty_struct name two) ∷ field 0 ∷ []))))) (seq (assign (place 4 []) (rv_opd (copy (place 3 [])))) (assign (place 2 []) (addr_of (place 4 (deref value ∷ [])))))))
      (seq (assign (place 0 []) (rv_opd (copy (place 2 [])))) return);
}

module _ (T : RattleType) (F : Form (Option T.Denot) (λ a. held_owns (ghosts.dealloc_token a) T)) (laid : F.row.mir ≡ ty_struct F.name two ∷ []) where
  -- the pointer, leading to w
  abbrev pub with_value : F.row.Denot → T.Denot → F.row.Denot
  with_value d w = F.make (F.at d) (F.alloc d) (Some w)

  abbrev pub ended : Ended
  ended = record { signature = record { lifetimes = 1; outlives = []; params = mut_ref_to (0 ∷ []) tt (plain (λ _. F.row)) ∷ []; result = mut_ref_to (0 ∷ []) tt (plain (λ _. T)) }; kept = (no, tt) }

  abbrev stayed : Stays ended.signature.params ended.kept
  stayed = (stay_dropped (mut_ref_to (0 ∷ []) tt (plain (λ _. F.row))) no, tt)

  abbrev Asks : F.row.Denot → Type 0
  Asks d = is_some (F.held d) ≡ true

  abbrev pub spec : {M : Type 1} {𝓤 : Ura M} (𝓛 : Logic 𝓤) → Clauses 𝓤 ended
  spec {𝓤 = 𝓤} 𝓛 κs a = record { ghost = Unit {0}; requires = λ _. fact 𝓤 (Asks a.0.now); ensures = λ _ r _. sep 𝓤 (sem 𝓛 (follows F.row T a.0.ghost_name r.ghost_name (with_value a.0.now))) (fact 𝓤 (F.held a.0.now ≡ Some r.now)) }

  module _ (written here : Ty) {M : Type 1} {𝓤 : Ura M} (𝓛 : Logic 𝓤) (κ : Lft) (q : Share) (rb ro : ℕ) (γ : GName) (d : F.row.Denot) where
    open 𝓛 use {H, A}

    abbrev fn : Fn
    fn = lending F.name (lone T.mir) written here

    abbrev self : MutBor F.row.Denot
    self = record { ref_ptr = (rb, ro); ghost_name = γ; now = d }

    abbrev bound : (walk_of 𝓛 ended stayed (spec 𝓛)).Ghost
    bound = (((κ, tt), (q, tt), tt, (self, tt), (vptr rb ro ∷ [], tt)), tt)

    abbrev Post : Val → SProp 𝓤
    Post = (walk_of 𝓛 ended stayed (spec 𝓛)).post bound

    abbrev token : Ptr → Fml
    token = ghosts.dealloc_token (F.alloc d) (bare (lone T.mir))

    module _ (b o : ℕ) (hv : Val) where
      abbrev bits : Val
      bits = word (block_ptr b o) hv

      -- all of the pointer but the value
      abbrev Rest : Fml
      Rest = fsep (fsep (token (block_ptr b o)) (Heap.the_row.own_val (F.alloc d) (hv ∷ []))) (cell_at full_share (ty_struct F.name two ∷ []) (bits ∷ []) rb ro)

      back : F.at d ≡ block_ptr b o → (w : T.Denot) → ent 𝓤 (sep 𝓤 (sem 𝓛 ((mem T).own_at w b o)) (sem 𝓛 Rest)) (sem 𝓛 ((mem F.row).own_at (with_value d w) rb ro))
      unfolding part_of
      back at_b w =
          qed 𝓛 (‵ (part_at T full_share w b o) ∷ ‵ Rest ∷ []) ∵ move ! (1 ∷ []) $ fsplit ! $ fsplit ! $
          -- [the token; the allocator; the cell; the value]
          move ! (3 ∷ 0 ∷ []) $ fjoin ! $ rewrite ! 0 (λ (p : Ptr). ‵ (box_owns (ghosts.dealloc_token (F.alloc d)) T p w)) (sym at_b) refl $
          nothing ! $ move ! (2 ∷ 0 ∷ []) $ fjoin ! $ feq_i ! (List Val) (vptr b o ∷ []) (ptr_val (F.at d) ∷ []) (ap (λ (p : Ptr). ptr_val p ∷ []) (sym at_b)) $ fjoin ! $
          feq_i ! (List Val) (bits ∷ []) (bits ∷ []) refl $ fjoin ! $
          fpack ! (Valss Fields.fields) (within Fields (F.at d, (F.alloc d, tt)) (bits ∷ [])) (vptr b o ∷ [], (hv ∷ [], tt)) $ fjoin ! $
          rewrite ! 0 (λ (G : Fml). ‵ G) (F.shuts (F.at d) (F.alloc d) (Some w) (bits ∷ [])) refl $
          move ! (1 ∷ []) $ rewrite ! 0 (λ (τ : List Ty). ‵ (cell_at full_share τ (bits ∷ []) rb ro)) (sym laid) refl $ fjoin ! $
          fpack ! (List Val) (λ us. fsep (cell_at full_share F.row.mir us rb ro) (F.row.own_val (with_value d w) us)) (bits ∷ []) $ done !

      exits : (x : T.Denot) (γ' : GName) → F.held d ≡ Some x
          → ent 𝓤 (sep 𝓤 (sem 𝓛 ((MutRef (named 0) κ T).own_val (record { ref_ptr = (b, o); ghost_name = γ'; now = x }) (vptr b o ∷ []))) (sep 𝓤 (A.lft κ q) (sem 𝓛 (follows F.row T γ γ' (with_value d))))) (Post (vptr b o))
      exits x γ' is =
          qed 𝓛 (‵ ((MutRef (named 0) κ T).own_val (record { ref_ptr = (b, o); ghost_name = γ'; now = x }) (vptr b o ∷ [])) ∷ ‵ (flft κ q) ∷ ‵ (follows F.row T γ γ' (with_value d)) ∷ []) ∵
          suffices ! _ (ends_at 𝓛 ended stayed (spec 𝓛) bound (vptr b o) (record { ref_ptr = (b, o); ghost_name = γ'; now = x }) (tt, tt) (tt, tt)) $
          nothing ! $ nothing ! $ fjoin ! $ join ! $ nothing ! $ move ! (2 ∷ 0 ∷ []) $ join ! $ join ! $ frame ! $ says ! is $ done !

    module _ (C : Calls 𝓤 H) (Λ : Loops 𝓤 H) where
      abbrev Goal : Type 1
      Goal = ent 𝓤 (on_entry 𝓛 ended.signature (κ, tt) (q, tt) (self, tt) (vptr rb ro ∷ [], tt)) (WpFn 𝓤 H C Λ fn (vptr rb ro ∷ []) Post)

      walk : (x : T.Denot) → F.held d ≡ Some x → Goal
      walk x is =
          let p = F.at d in let a = F.alloc d in
          qed 𝓛 ((‵ (flft κ q) ⊛ ‵ ftrue) ∷ ‵ (owns (MutRef (named 0) κ F.row ∷ []) (self, tt) (vptr rb ro ∷ [], tt)) ∷ []) ∵
          enter ! C Λ fn (vptr rb ro ∷ []) _ $
          alloc_all ! (λ l. pass_all ! refl ((tt, tt), tt) $
          let En : Env 𝓤 H = env fn.locals l in
          move ! (1 ∷ []) $ fsplit ! $ fsplit3 ! $ drop ! $ move ! (3 ∷ []) $ split ! $ move ! (2 ∷ 3 ∷ 0 ∷ []) $
          opens ! tt F.row {h = d} rb ro (λ us.
          rewrite ! 0 (λ (τ : List Ty). ‵ (cell_at full_share τ us rb ro)) laid refl $
          move ! (1 ∷ []) $ rewrite ! 0 (λ (G : Fml). ‵ G) (F.opens d us) refl $ fsplit ! $
          fpick ! (λ vss. fsplit ! $ feq_l ! (λ eu. fsplit ! $ feq_l ! (λ ep. fsplit ! $ handle_tells Z ! a vss.1.0 (λ hv eh fa. move ! (1 ∷ []) $ drop ! $ move ! (1 ∷ []) $
          rewrite ! 0 (λ (h : Option T.Denot). ‵ (held_owns (ghosts.dealloc_token a) T p h)) is refl $
          in_a_block ! p (λ (p : Ptr). box_owns (ghosts.dealloc_token a) T p x) (fst∗ 𝓤 (never 𝓤) (sem 𝓛 (token null_ptr))) (λ b o at_b. fsplit ! $
          -- [the value; its token; the allocator; the cell; the open borrow; obs; auth]
          let laid_out : us ≡ word (block_ptr b o) hv ∷ [] = eu ∙ (λ j. vstruct (of_list ((ep ∙ ap (λ (p : Ptr). ptr_val p ∷ []) at_b) j ++ (eh j ++ []))) ∷ []) in
          rewrite ! 3 (λ (ws : List Val). ‵ (cell_at full_share (ty_struct F.name two ∷ []) ws rb ro)) laid_out refl $
          move ! (1 ∷ 2 ∷ []) $ fjoin ! $ move ! (1 ∷ []) $
          first ! $ blocks ! $
          sets ! (of_opd ! (load ! (through ! refl (fld ! refl (stop !))) (look_in ! 2 (sub ! 0 refl (whole !))))) refl (tt, tt) $
          sets ! (of_opd ! (get ! refl)) refl (tt, tt) $
          sets_last ! (addr ! (through ! refl (stop !))) refl (tt, tt) $
          exec ! C Λ En (after 1 fn.body) (at_ret En Post) $
          sets ! (of_opd ! (get ! refl)) refl (tt, tt) $
          move ! (1 ∷ 2 ∷ []) $ fjoin ! $ move ! (2 ∷ 3 ∷ 4 ∷ 1 ∷ 0 ∷ []) $ group ! 5 $
          use1 𝓛 (later (some (λ (γ' : GName). raw (Part 𝓛 F.row T (with_value d) (named 0) κ q rb ro b o γ (sem 𝓛 (Rest b o hv)) (back b o hv at_b) x γ'))))
          (lends_Part 𝓛 F.row T (with_value d) (named 0) κ q rb ro b o γ (sem 𝓛 (Rest b o hv)) (back b o hv at_b) (F.row.coded.code d) (F.row.coded.code d) x) $ await ! tt $ pick ! (λ γ'.
          returns ! (look_at ! 0 refl) $ free_all ! refl $
          keep ! (0 ∷ []) $ by ! (exits b o hv x γ' is)))))))))

      walk_where : (h : Option T.Denot) → F.held d ≡ h → is_some h ≡ true → Goal
      walk_where None is e = absurd (subst lib.Dec.T (sym e) tt)
      walk_where (Some x) is e = walk x is

  pub meets : (written here : Ty) {M : Type 1} {𝓤 : Ura M} (𝓛 : Logic 𝓤) (𝓣 : Tables 𝓤 𝓛.H)
      → Meets 𝓛 ended.signature (WpFn 𝓤 𝓛.H 𝓣.C 𝓣.Λ (lending F.name (lone T.mir) written here)) (closing 𝓛 ended (spec 𝓛))
  meets written here {𝓤 = 𝓤} 𝓛 𝓣 =
      let run = WpFn 𝓤 𝓛.H 𝓣.C 𝓣.Λ (lending F.name (lone T.mir) written here) in
      walk_Meets 𝓛 ended stayed (Goes-spent_ref 𝓛 1 (0 ∷ []) tt (plain (λ _. F.row)), tt) (spec 𝓛) run (WpFn-mono 𝓤 𝓛.H 𝓛.laws 𝓣 (lending F.name (lone T.mir) written here))
      (walked 𝓛 ended stayed (spec 𝓛) run (λ κs. (mut_vals, tt)) (λ κs. (mut_Tells (named 0) κs.0 F.row, tt))
      (λ κs qs bounds a g are. needs 𝓤 (Asks a.0.now) _ (walk_where written here 𝓛 κs.0 qs.0 a.0.ref_ptr.0 a.0.ref_ptr.1 a.0.ghost_name a.0.now 𝓣.C 𝓣.Λ (F.held a.0.now) refl)))
