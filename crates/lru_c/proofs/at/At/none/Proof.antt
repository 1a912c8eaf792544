-- `none` makes a null pointer, which owns nothing.
use mathlib.Core.Path.{refl, sym, subst}
use mathlib.Core.List.{List, [], ◌∷◌, ◌++◌}
use lib.Dec.{lit<}
use seplogic.Ra.Ura.{Ura}
use mir.Val.{Val, vstruct, vcons, vnil, has_ty}
use base.Logic.{SProp, ent, id⊢}
use base.Fml.{ftrue, fsep, flft}
use prog.Memory.{Memory}
use prog.Routine.{Routine}
use prog.Wp.{WpFn, Tables}
use types.Logic.{Logic}
use contract.BorrowLft.{◌⊑◌}
use contract.Monad.{Fun, fact}
use contract.Running.{tables, tables_of}
use sound.WpLaws.{WpFn-mono}
use types.Kit.{Item, ‵, raw, ◌⊛◌, ◌$◌, ◌∵◌, !, qed, by, move, drop, use1, join, split, fsplit, fjoin, fpack, feq_i, suffices, done}
use types.Part.{agg}
use types.Run.{lit, no_more, and_then, of_opd, returns, enter}
use types.ByLocal.{alloc_all, pass_all, free_all, look_at, get, sets}
use denote.Exit.{no}
use denote.RattleType.{Valss}
use denote.RawPtr.{RawPtr, null_ptr, ptr_val}
use denote.Signature.{plain}
use denote.Steps.{nothing}
use denote.Struct.Struct.{within}
use denote.Struct.Owning.{shape}
use denote.Triple.Clauses.{Ended, Clauses}
use denote.Triple.Spec.{triple_of}
use denote.Triple.Table.{entered}
use denote.Triple.Walked.{says, walk_of, ends_at, walk_Meets}
use Rattle.std.specs.Prelude.{None}
use Rattle.core.proofs.alloc.Calls.{handle_tells, α, Goes-blank}
use Rattle.std_alloc.proofs.ResultValues.{and_tt}
use Rattle.std_alloc.proofs.BoxSteps.Form.{Bx, R, P, args}
use Rattle.lru_c.proofs.AtWalk.{at_types, pointer, takes_one}
use Rattle.lru_c.specs.contracts.at.At as at
use Rattle.lru_c.specs.contracts.at.At.none as F
use Rattle.lru_c.specs.contracts.at.At.none.Key.{name as #self}
use Rattle.lru_c.proofs.at.At.none.Statement as stated
use Rattle.lru_c.proofs.at.At.none.Code as code

-- the null pointer beside the allocator's bits
abbrev null : Val → Val
null hv = vstruct (vcons (ptr_val null_ptr) (vcons hv vnil))

abbrev ended : Bx → Ended
ended E = F.ended E.row E.al.row E.al.g E.al.d E.al.drops

module _ (E : Bx) {M : Type 1} {𝓤 : Ura M} (𝓛 : Logic 𝓤) (at_mem : Memory → SProp 𝓤) (run : Routine → Fun 𝓤) (𝓣 : Tables 𝓤 𝓛.H) where
  abbrev held : Clauses 𝓤 (ended E)
  held = F.clauses E.row E.al.row E.al.g E.al.d E.al.drops 𝓛 at_mem run

  walk : (z : (walk_of 𝓛 (ended E) (takes_one (P E)) held).Ghost) → ent 𝓤 ((walk_of 𝓛 (ended E) (takes_one (P E)) held).pre z) (WpFn 𝓤 𝓛.H 𝓣.C 𝓣.Λ (at_types E code.function) (z.0.4.0 ++ []) ((walk_of 𝓛 (ended E) (takes_one (P E)) held).post z))
  walk z =
      let κs = z.0.0 in let qs = z.0.1 in let a = z.0.3.0 in let Post = (walk_of 𝓛 (ended E) (takes_one (P E)) held).post z in
      let made : (pointer E).Denot = record { ptr = null_ptr; alloc = a; held = None } in
      let ts : Item 𝓤 = ‵ (flft κs.0 qs.0) ⊛ ‵ (flft κs.1.0 qs.1.0) ⊛ ‵ ftrue in
      let alive : Item 𝓤 = raw (fact 𝓤 (κs.0 ⊑ E.row.lives)) ⊛ raw (fact 𝓤 (κs.1.0 ⊑ E.al.row.lives)) ⊛ ‵ ftrue in
      qed 𝓛 ((ts ⊛ ‵ (fsep (E.al.row.own_val a z.0.4.0) ftrue)) ∷ alive ∷ []) ∵ split ! $ move ! (1 ∷ []) $ fsplit ! $
      handle_tells E.al ! a z.0.4.0 (λ hv ea fa.
      let w = null hv in
      -- what the null pointer owns: its bits, and nothing beside
      fjoin ! $ feq_i ! (List Val) (ptr_val null_ptr ∷ []) (ptr_val null_ptr ∷ []) refl $ fjoin ! $
      feq_i ! (List Val) (w ∷ []) (w ∷ []) refl $ fjoin ! $
      fpack ! (Valss (RawPtr ∷ P E ∷ [])) (within (shape (at.the_type (R E) (P E) E.al.g)) (null_ptr, (a, tt)) (w ∷ [])) (ptr_val null_ptr ∷ [], (hv ∷ [], tt)) $
      nothing ! $ move ! (1 ∷ []) $ fjoin ! $ use1 𝓛 (‵ ((pointer E).own_val made (w ∷ []))) (id⊢ 𝓤 _) $
      let Γ : List (Item 𝓤) = ‵ ((pointer E).own_val made (w ∷ [])) ∷ ts ∷ alive ∷ [] in
      by ! (subst (λ (us : List Val). ent 𝓤 (types.Kit.⋆ 𝓛 Γ) (WpFn 𝓤 𝓛.H 𝓣.C 𝓣.Λ (at_types E code.function) (us ++ []) Post)) (sym ea)
      (qed 𝓛 Γ ∵ enter ! 𝓣.C 𝓣.Λ (at_types E code.function) (hv ∷ []) _ $ alloc_all ! (λ ls. pass_all ! refl (fa, tt) $ sets ! (of_opd ! (get ! refl)) refl fa $
      sets ! (agg ! (and_then ! (lit ! tt) (and_then ! (get ! refl) (no_more !)))) refl (and_tt (has_ty (α E.al) hv) fa.0, (record { fits = lit< tt }, (fa.1, tt))) $ returns ! (look_at ! 0 refl) $ free_all ! refl $
      move ! (2 ∷ []) $ drop ! $
      suffices ! _ (ends_at 𝓛 (ended E) (takes_one (P E)) held z w made (tt, tt) (tt, tt)) $ says ! refl $
      nothing ! $ nothing ! $ fjoin ! $ join ! $ move ! (1 ∷ 0 ∷ []) $ join ! $ done !))))

pub none_spec : {M : Type 1} → stated.statement M
unfolding tables_of
none_spec 𝓤 𝓛 𝓜 𝓡 wired X Z LX LZ g d dd allocator md =
    let E : Bx = record { row = X; laws = LX; al = record { row = Z; laws = LZ; g = g; d = d; drops = dd } } in let 𝓣 : Tables 𝓤 𝓛.H = tables_of 𝓤 𝓛.H 𝓜 (tables 𝓤 𝓛.H 𝓜 𝓡 𝓡.env) in
    entered 𝓤 𝓛.H (triple_of 𝓛 (ended E).signature (F.spec X Z g d dd 𝓛 𝓜.mem 𝓡.returns)) 𝓣.C 𝓣.Λ (#self (args E)) (at_types E code.function) (code.unfolded 𝓤 𝓛.H 𝓜 𝓡 wired (X, (Z, tt)) d dd) (walk_Meets 𝓛 (ended E) (takes_one (P E)) (Goes-blank 𝓛 2 (plain (λ _. P E)) no (λ κs x f. tt), tt) (held E 𝓛 𝓜.mem 𝓡.returns 𝓣) (WpFn 𝓤 𝓛.H 𝓣.C 𝓣.Λ (at_types E code.function)) (WpFn-mono 𝓤 𝓛.H 𝓛.laws 𝓣 (at_types E code.function)) (walk E 𝓛 𝓜.mem 𝓡.returns 𝓣))
