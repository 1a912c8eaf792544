-- A struct of a pointer and an allocator that takes another one's fields, and owns what that one
-- owned.
use mathlib.Core.Path.{◌≡◌, refl, sym, ◌∙◌, subst}
use mathlib.Core.List.{List, [], ◌∷◌, ◌++◌}
use lib.Dec.{T, lit<}
use seplogic.Ra.Ura.{Ura}
use mir.Syntax.{Sym, Tys, Fn, ty_ptr, ty_struct, tnil, tcons, local, value_local, assign, aggregate, place, field, copy, rv_opd, seq, return, impl}
use mir.Val.{Val, vstruct, vcons, vnil, of_list, has_ty, WT}
use base.Logic.{ent, emp}
use base.Fml.{Fml, ftrue, fsep}
use prog.Wp.{WpFn, Tables}
use types.Logic.{Logic}
use types.Kit.{Item, ‵, raw, ◌⊛◌, ◌$◌, ◌∵◌, !, qed, by, move, drop, rewrite, join, split, fsplit, fjoin, fpick, fpack, feq_l, feq_i, suffices, done}
use types.Part.{whole, sub, agg}
use types.Run.{stop, fld, no_more, and_then, of_opd, returns, enter}
use types.ByLocal.{alloc_all, pass_all, free_all, look_at, get, get_in, sets}
use sound.WpLaws.{WpFn-mono}
use contract.Monad.{fact}
use mathlib.Core.Bool.{Bool, true, false, ◌&&◌}
use denote.Triple.Statement.{Triple}
use denote.Triple.Spec.{triple_of}
use denote.Exit.{yes, Last, left}
use denote.RattleType.{RattleType, Valss}
use denote.RawPtr.{Ptr, RawPtr, block_ptr, null_ptr, ptr_val}
use denote.Signature.{Signature, plain}
use denote.Steps.{nothing}
use denote.Struct.Struct.{Shape, Struct, within}
use denote.Triple.Clauses.{Ended, Clauses, closing}
use denote.Triple.Walked.{says, Stays, stay_dropped, walk_of, ends_at, Goes-dropped, walk_Meets}
use Rattle.core.proofs.alloc.Calls.{Al, α, Fits, handle_tells}
use Rattle.std_alloc.proofs.ResultValues.{and_tt}
use Rattle.std_heap.specs.contracts.Global as Heap
use Rattle.std_heap.specs.contracts.GlobalAllocator.TheImpl.{ghosts, dict}
use Rattle.std_heap.proofs.Global.TheLaws as heap
use mir.Syntax.{dnil}
use Rattle.std.specs.Prelude.{Option}
use Rattle.lru_c.specs.Held.{held_owns}
use Rattle.lru_c.specs.contracts.at.At as At

-- the allocator
abbrev pub Z : Al
Z = record { row = Heap.the_row; laws = heap.the_row_laws; g = ghosts; d = dict; drops = impl [] tnil dnil }

-- the two fields as a struct, and what it owns for them
abbrev pub Fields : Shape
Fields = record { name = []; args = []; types = []; fields = RawPtr ∷ Heap.the_row ∷ [] }

abbrev pub two : Tys
two = tcons ty_ptr (tcons (α Z) tnil)

-- the function: its parameter and its result are structs of these names
abbrev pub moving : Sym → Sym → Fn
moving to from = record {
  lifetimes = 0;
  outlives = [];
  ty_params = [];
  givens = 0;
  params = 1;
  locals = local (ty_struct to two) value_local ∷ local (ty_struct from two) value_local ∷ local ty_ptr value_local ∷ local (α Z) value_local ∷ local ty_ptr value_local ∷ [];
  body = seq (assign (place 2 []) (rv_opd (copy (place 1 (field 0 ∷ [])))))
      (seq (assign (place 3 []) (rv_opd (copy (place 1 (field 1 ∷ [])))))
      (seq (assign (place 4 []) (rv_opd (copy (place 2 []))))
      (seq (assign (place 0 []) (aggregate (copy (place 4 []) ∷ copy (place 3 []) ∷ []))) return)));
}

abbrev pub own_fields : Ptr → Heap.the_row.Denot → List Val → Fml
own_fields p a us = (Struct Fields).own_val (p, (a, tt)) us

-- the struct's value: the pointer beside the allocator's bits
abbrev pub word : Ptr → Val → Val
word p hv = vstruct (vcons (ptr_val p) (vcons hv vnil))

ptr_typed : (p : Ptr) → T (has_ty ty_ptr (ptr_val p)) × WT (ptr_val p)
ptr_typed (block_ptr b o) = (tt, tt)
ptr_typed null_ptr = (tt, record { fits = lit< tt })

both : (x y : Bool) → T x → T y → T (x && y)
both true y p q = q
both false y p q = absurd p

word_typed : (to : Sym) (p : Ptr) (hv : Val) → Fits Z hv → T (has_ty (ty_struct to two) (word p hv)) × WT (word p hv)
word_typed to p hv fa = (both (has_ty ty_ptr (ptr_val p)) (has_ty (α Z) hv && true) (ptr_typed p).0 (and_tt (has_ty (α Z) hv) fa.0), ((ptr_typed p).1, (fa.1, tt)))

-- a struct of these fields that owns, beside them, what lies behind the pointer, of which its ghost
-- field tells
pub record Form (X : Type 0) (owned : Heap.the_row.Denot → Ptr → X → Fml) : Type 2 where
  pub row : RattleType
  pub name : Sym
  pub at : row.Denot → Ptr
  pub alloc : row.Denot → Heap.the_row.Denot
  pub held : row.Denot → X
  pub make : Ptr → Heap.the_row.Denot → X → row.Denot
  pub opens : (d : row.Denot) (us : List Val) → row.own_val d us ≡ fsep (own_fields (at d) (alloc d) us) (owned (alloc d) (at d) (held d))
  pub shuts : (p : Ptr) (a : Heap.the_row.Denot) (h : X) (us : List Val) → fsep (own_fields p a us) (owned a p h) ≡ row.own_val (make p a h) us
  pub tells : (p : Ptr) (a : Heap.the_row.Denot) (h : X) → held (make p a h) ≡ h
  pub last : (x : row.Denot) → Last (row.exit yes) x
  pub silent : (x : row.Denot) (f : Last (row.exit yes) x) → left (row.exit yes) x f ≡ ftrue

-- the pointer that a box is made of
abbrev pub at_form : (R : RattleType) → Form (Option R.Denot) (λ a. held_owns (ghosts.dealloc_token a) R)
at_form R = record {
  row = At.the_row R Heap.the_row ghosts;
  name = (At.the_type R Heap.the_row ghosts).name;
  at = λ d. d.ptr;
  alloc = λ d. d.alloc;
  held = λ d. d.held;
  make = λ p a h. record { ptr = p; alloc = a; held = h };
  opens = λ d us. refl;
  shuts = λ p a h us. refl;
  tells = λ p a h. refl;
  last = λ x. tt;
  silent = λ x f. refl;
}

module _ {X : Type 0} {owned : Heap.the_row.Denot → Ptr → X → Fml} (From To : Form X owned) where
  abbrev pub signature : Signature
  signature = record { lifetimes = 0; outlives = []; params = plain (λ _. From.row) ∷ []; result = plain (λ _. To.row) }

  abbrev pub ended : Ended
  ended = record { signature = signature; kept = (yes, tt) }

  abbrev stayed : Stays ended.signature.params ended.kept
  stayed = (stay_dropped (plain (λ _. From.row)) yes, tt)

  abbrev fn' : Fn
  fn' = moving To.name From.name

  module _ {M : Type 1} {𝓤 : Ura M} (𝓛 : Logic 𝓤) where
    -- the result holds what the parameter held
    abbrev pub clauses : Clauses 𝓤 ended
    clauses = λ κs args. record { ghost = Unit {0}; requires = λ g. emp 𝓤; ensures = λ g res end. fact 𝓤 (To.held res ≡ From.held args.0) }

    module _ (𝓣 : Tables 𝓤 𝓛.H) where
      open 𝓛 use {H}

      walk : (z : (walk_of 𝓛 ended stayed clauses).Ghost) → ent 𝓤 ((walk_of 𝓛 ended stayed clauses).pre z) (WpFn 𝓤 𝓛.H 𝓣.C 𝓣.Λ fn' (z.0.4.0 ++ []) ((walk_of 𝓛 ended stayed clauses).post z))
      walk z =
          let d = z.0.3.0 in let us = z.0.4.0 in let p = From.at d in let a = From.alloc d in let h = From.held d in let Post = (walk_of 𝓛 ended stayed clauses).post z in
          let made : To.row.Denot = To.make p a h in
          qed 𝓛 ((‵ ftrue ⊛ ‵ (fsep (From.row.own_val d us) ftrue)) ∷ raw (emp 𝓤) ∷ []) ∵ split ! $ drop ! $ fsplit ! $
          rewrite ! 0 (λ (F : Fml). ‵ F) (From.opens d us) refl $ fsplit ! $ fpick ! (λ vss. fsplit ! $ feq_l ! (λ eu. fsplit ! $ feq_l ! (λ ep. fsplit ! $ handle_tells Z ! a vss.1.0 (λ hv eh fa.
          let w = word p hv in
          fjoin ! $ feq_i ! (List Val) (ptr_val p ∷ []) (ptr_val p ∷ []) refl $ fjoin ! $ feq_i ! (List Val) (w ∷ []) (w ∷ []) refl $ fjoin ! $
          fpack ! (Valss Fields.fields) (within Fields (p, (a, tt)) (w ∷ [])) (ptr_val p ∷ [], (hv ∷ [], tt)) $ fjoin ! $
          rewrite ! 0 (λ (F : Fml). ‵ F) (To.shuts p a h (w ∷ [])) refl $ move ! (1 ∷ 2 ∷ []) $ drop ! $ drop ! $
          let Γ : List (Item 𝓤) = ‵ (To.row.own_val made (w ∷ [])) ∷ [] in
          by ! (subst (λ (vs : List Val). ent 𝓤 (types.Kit.⋆ 𝓛 Γ) (WpFn 𝓤 𝓛.H 𝓣.C 𝓣.Λ fn' (vs ++ []) Post)) (sym (eu ∙ (λ j. vstruct (of_list (ep j ++ (eh j ++ []))) ∷ [])))
          (qed 𝓛 Γ ∵ enter ! 𝓣.C 𝓣.Λ fn' (w ∷ []) _ $ alloc_all ! (λ ls. pass_all ! refl (word_typed From.name p hv fa, tt) $
          sets ! (of_opd ! (get_in ! (fld ! refl (stop !)) (sub ! 0 refl (whole !)))) refl (ptr_typed p) $ sets ! (of_opd ! (get_in ! (fld ! refl (stop !)) (sub ! 1 refl (whole !)))) refl fa $ sets ! (of_opd ! (get ! refl)) refl (ptr_typed p) $
          sets ! (agg ! (and_then ! (get ! refl) (and_then ! (get ! refl) (no_more !)))) refl (word_typed To.name p hv fa) $ returns ! (look_at ! 0 refl) $ free_all ! refl $
          suffices ! _ (ends_at 𝓛 ended stayed clauses z w made (From.last d, tt) (tt, tt)) $ says ! (To.tells p a h) $
          nothing ! $ nothing ! $ fjoin ! $ join ! $ nothing ! $ join ! $ done !)))))))

      pub moved : Triple 𝓤 (WpFn 𝓤 𝓛.H 𝓣.C 𝓣.Λ fn') (triple_of 𝓛 signature (closing 𝓛 ended clauses))
      moved = walk_Meets 𝓛 ended stayed (Goes-dropped 𝓛 0 (plain (λ _. From.row)) yes (λ κs. From.silent), tt) clauses (WpFn 𝓤 𝓛.H 𝓣.C 𝓣.Λ fn') (WpFn-mono 𝓤 𝓛.H 𝓛.laws 𝓣 fn') walk
