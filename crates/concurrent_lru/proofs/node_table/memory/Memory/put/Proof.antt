-- `put` takes the box apart, and closes the memory over its value. Assumes `Logic`.
use Rattle.std.proofs.Common.{◌≡◌, List, [], ◌∷◌, ◌++◌, Some, None, refl, ap, ◌∙◌}
use mir.Syntax.{a_type, dcons, dnil}
use mir.Raw.{raw as bare}
use mir.MapTy.{inst_fn}
use mir.Val.{Val, vptr, vstruct, of_list, has_ty}
use base.Logic.{SProp, emp, never, id⊢, fst∗}
use base.Fml.{ftrue, fsep, flft}
use prog.Wp.{WpFn}
use types.Logic.{sem}
use types.Kit.{‵, raw, ◌⊛◌, some, later, prop, ◌$◌, ◌∵◌, !, qed, by, move, keep, drop, split, split3, join, fsplit, fsplit3, fjoin, fjoin3, fpick, feq_i, feq_l, flt_l, pick, use0, use1, use2, await, rewrite, regoal}
use types.Run.{stop, fld, of_opd, no_more, and_then, returns, enter}
use types.ByLocal.{alloc_all, pass_all, free_all, look_at, get, get_in, sets, lands_as}
use types.Part.{agg, sub, whole}
use contract.Monad.{fact, fact_i}
use contract.Running.{tables}
use denote.Builtin.{usize, RawPtr}
use denote.Exit.{yes, no}
use denote.Param.{layout, bounded}
use denote.RattleType.{owns}
use denote.RawPtr.{Ptr, block_ptr, null_ptr, ptr_val, in_a_block}
use denote.Signature.{types_at, plain}
use denote.Steps.{nothing, only, heard, opens, closes}
use denote.Struct.Tuple.{Tuple}
use denote.Triple.Call.{calls_at}
use denote.Triple.Spec.{triple_of}
use denote.Triple.Walked.{Stays, stay_dropped, stay_ref, walk_of, Goes-ref}
use Rattle.core.proofs.alloc.Calls.{Goes-blank, handle_tells}
use Rattle.core.proofs.atomic.Steps.{fm}
use Rattle.std.proofs.raw_atomic.Walks.{proved_at, leaves}
use Rattle.std_alloc.specs.Box.Ownership.{box_owns}
use Rattle.std_alloc.proofs.BoxSteps.Form as box
use Rattle.std_alloc.proofs.BoxSteps.Form.{Bx, R, P, B, box_typed}
use Rattle.std_alloc.proofs.BoxSteps.Steps.{box_out, box_in}
use Rattle.std_alloc.proofs.RcSteps.{word, word-Good}
use Rattle.std_alloc.proofs.ResultValues.{and_tt}
use Rattle.std_alloc.specs.contracts.boxed.Box.into_raw_with_allocator as callee
use Rattle.std_alloc.proofs.boxed.Box.into_raw_with_allocator.Met.{met}
use Rattle.concurrent_lru.specs.Cells.{cell, cell_at, put_at}
use Rattle.concurrent_lru.proofs.Memory.Walks.{Mr, Ar, One, All, word_made, cell_in, pair_in, two}
use Rattle.concurrent_lru.specs.contracts.node_table.memory.Memory.put.{ended, clauses}
use Rattle.concurrent_lru.specs.contracts.node_table.memory.Memory.put.Key.{name as #self}
use Rattle.concurrent_lru.proofs.node_table.memory.Memory.put.Statement.{statement}
use Rattle.concurrent_lru.proofs.node_table.memory.Memory.put.Code as code

pub put_spec : {M : Type 1} → statement M
put_spec 𝓤 𝓛 𝓜 𝓡 wired T A L LA g d dd dx allocator glued glue =
    let H = 𝓛.H in let 𝓣 = tables 𝓤 H 𝓜 𝓡 𝓡.env in
    let E : Bx = record { row = T; laws = L; al = record { row = A; laws = LA; g = g; d = d; drops = dd } } in
    let bounds = bounded (a_type ∷ a_type ∷ []) (T, (A, tt)) (dcons d (dcons dd (dcons dx dnil))) in
    let En = ended T A g d dd dx in let c = clauses T A g d dd dx 𝓛 𝓜.mem 𝓡.returns in let fn = inst_fn bounds code.function in
    let hs : Stays En.signature.params En.kept = (stay_ref (0 ∷ []) tt (plain (λ _. Mr E)), (stay_dropped (plain (λ _. B E)) no, (stay_dropped (plain (λ _. usize)) yes, tt))) in
    proved_at 𝓛 En hs c 𝓜 𝓡 (Goes-ref 𝓛 3 0 tt (plain (λ _. Mr E)), (Goes-blank 𝓛 3 (plain (λ _. B E)) no (λ κs x f. tt), (Goes-blank 𝓛 3 (plain (λ _. usize)) yes (λ κs x f. tt), tt)))
    (#self bounds) fn (code.unfolded 𝓤 H 𝓜 𝓡 wired (T, (A, tt)) d dd dx) (λ z are.
    let κs = z.0.0 in let qs = z.0.1 in let self = z.0.3.0 in let value = z.0.3.1.0 in let slot = z.0.3.1.1.0 in let a = value.alloc in
    let rb = self.ref_ptr.0 in let ro = self.ref_ptr.1 in let cells = self.now.cells in
    let Post : Val → SProp 𝓤 = (walk_of 𝓛 En hs c).post z in
    let toks = ‵ (flft κs.1.0 qs.1.0) ⊛ ‵ (flft κs.1.1.0 qs.1.1.0) ⊛ ‵ ftrue in
    let outer = raw (fact 𝓤 (contract.BorrowLft.◌⊑◌ κs.1.0 T.lives)) in let inner = raw (fact 𝓤 (contract.BorrowLft.◌⊑◌ κs.1.1.0 A.lives)) in
    let asked = raw (fact 𝓤 (cell_at cells slot ≡ None)) in
    qed 𝓛 (((‵ (flft κs.0 qs.0) ⊛ toks) ⊛ ‵ (owns (types_at En.signature.params κs) z.0.3 z.0.4)) ∷ outer ∷ inner ∷ asked ∷ []) ∵
    move ! (3 ∷ []) $ heard ! _ (λ free. split ! $ split ! $ move ! (2 ∷ []) $
    -- [the parameters; the token of self; the others'; two bounds]
    fsplit ! $ fsplit3 ! $ feq_l ! (λ e0. move ! (2 ∷ []) $ fsplit ! $ box_out E ! value z.0.4.1.0 (λ b o h e e1 fits. box_in E ! value b o value.value e refl $
    move ! (1 ∷ []) $ fsplit ! $ fsplit ! $ feq_l ! (λ e2. flt_l ! (λ fits_slot.
    -- [nothing; the box; obs; the borrow; the token; the others'; two bounds]
    let w : Val = box.word E h b o in let typed = box_typed E h b o fits in
    let k = triple_of 𝓛 (callee.signature T A g d dd dx) (callee.spec T A g d dd dx 𝓛 𝓜.mem 𝓡.returns) in
    let y : k.Ghost = (((κs.1.0, (κs.1.1.0, tt)), (qs.1.0, (qs.1.1.0, tt)), tt, (value, tt), (w ∷ [], tt)), tt) in let Pair = Tuple (RawPtr ∷ P E ∷ []) in
    move ! (1 ∷ 0 ∷ []) $ fjoin ! $ move ! (4 ∷ 0 ∷ []) $ join ! $ nothing ! $ move ! (6 ∷ 0 ∷ []) $ join ! $ move ! (5 ∷ 0 ∷ []) $ join ! $ move ! (1 ∷ 0 ∷ []) $ join ! $ use1 𝓛 (raw (k.pre y)) (id⊢ 𝓤 _) $
    let us : List Val = vptr rb ro ∷ w ∷ mir.Val.vint mir.Syntax.w64 slot ∷ [] in
    regoal ! (λ (ws : List Val). prop (WpFn 𝓤 H 𝓣.C 𝓣.Λ fn ws Post)) (λ i. e0 i ++ (e1 i ++ (e2 i ++ []))) refl $
    enter ! 𝓣.C 𝓣.Λ fn us Post $ alloc_all ! (λ l. pass_all ! refl ((tt, tt), (typed, ((tt, record { fits = fits_slot }), tt))) $ sets ! (of_opd ! (get ! refl)) refl typed $
    calls_at ! (fm 𝓛 𝓜 𝓡) k (met 𝓤 𝓛 𝓜 𝓡 (code.calls-std_alloc::boxed::Box::into_raw_with_allocator 𝓡.env wired) T A L LA g d dd dx allocator glued glue) y (and_then ! (get ! refl) (no_more !)) (λ u.
    use1 𝓛 (later (some (λ (r : Ptr × A.Denot). (toks ⊛ ‵ (Pair.own_val r (u ∷ []))) ⊛ some (λ (_ : (Unit {0} × (Unit {0} × Unit {0})) × Unit {0}). ‵ (fsep (fsep ftrue (fsep ftrue ftrue)) ftrue) ⊛ (raw (fact 𝓤 (r.1 ≡ a)) ⊛ ‵ (box_owns (g.dealloc_token a) (R E) r.0 value.value)))))) (id⊢ 𝓤 _) $
    await ! tt $ pick ! (λ r. split ! $ move ! (1 ∷ []) $ pick ! (λ _. split3 ! $ drop ! $ heard ! (r.1 ≡ a) (λ ea.
    in_a_block ! r.0 (λ p. box_owns (g.dealloc_token a) (R E) p value.value) (fst∗ 𝓤 (never 𝓤) (sem 𝓛 (g.dealloc_token a (bare (layout T)) null_ptr))) (λ b' o' e'.
    move ! (1 ∷ []) $ split ! $ move ! (1 ∷ []) $ fpick ! (λ vss. fsplit ! $ feq_l ! (λ eu. fsplit ! $ feq_l ! (λ ep. fsplit ! $
    rewrite ! 0 (λ (s : A.Denot). ‵ ((P E).own_val s vss.1.0)) ea refl $ handle_tells E.al ! a vss.1.0 (λ h' eh fits'.
    -- [the handle; nothing; the others' tokens; the value; obs; the borrow; the token]
    let one : One E = cell (block_ptr b' o') a value.value in let new : (Mr E).Denot = record { mark = self.now.mark; cells = put_at slot (Some one) cells } in
    let here : Val = word (block_ptr b' o') in let out : (Tuple (Ar E ∷ P E ∷ [])).Denot = (record { ptr = block_ptr b' o' }, a) in
    lands_as ! (ap only (eu ∙ (λ j. vstruct (of_list ((ep ∙ ap (λ (p : Ptr). ptr_val p ∷ []) e') j ++ (eh j ++ []))) ∷ []))) refl (box_typed E h' b' o' fits') $
    sets ! (of_opd ! (get_in ! (fld ! refl (stop !)) (sub ! 0 refl (whole !)))) refl (tt, tt) $ sets ! (of_opd ! (get_in ! (fld ! refl (stop !)) (sub ! 1 refl (whole !)))) refl fits' $
    sets ! (agg ! (and_then ! (get ! refl) (no_more !))) refl (word-Good [] (block_ptr b' o')) $ sets ! (of_opd ! (get ! refl)) refl fits' $
    sets ! (agg ! (and_then ! (get ! refl) (and_then ! (get ! refl) (no_more !)))) refl (and_tt (has_ty (layout (P E)) h') fits'.0, ((word-Good [] (block_ptr b' o')).1, (fits'.1, tt))) $
    move ! (4 ∷ 5 ∷ 6 ∷ []) $ opens ! tt (Mr E) {h = self.now} rb ro (λ vs. move ! (1 ∷ []) $ fsplit ! $
    -- [the mark; the cells; its cell; the open borrow; obs; auth; the handle; nothing; the others'
    -- tokens; the value]
    move ! (9 ∷ 1 ∷ []) $ use2 𝓛 (‵ (All E new.cells)) (cell_in E 𝓛 cells slot one free) $ move ! (1 ∷ 0 ∷ []) $ fjoin ! $ move ! (1 ∷ 0 ∷ []) $ closes ! tt (Mr E) new vs rb ro $
    move ! (3 ∷ []) $ word_made ! (block_ptr b' o') $ pair_in (Ar E) (P E) ! out.0 a here h' $
    -- [the pair; obs; the borrow; the token; nothing; the others' tokens]
    returns ! (look_at ! 0 refl) $ free_all ! refl $
    use0 𝓛 (raw (fact 𝓤 (new.cells ≡ put_at slot (Some one) cells))) (fact_i 𝓤 (new.cells ≡ put_at slot (Some one) cells) (emp 𝓤) refl) $
    move ! (4 ∷ 6 ∷ []) $ join ! $ feq_i ! (List Val) z.0.4.0 (vptr rb ro ∷ []) e0 $ move ! (0 ∷ 4 ∷ 5 ∷ []) $ fjoin3 ! $
    nothing ! $ nothing ! $ fjoin ! $ nothing ! $ fjoin ! $ move ! (1 ∷ 0 ∷ []) $ fjoin ! $ keep ! (1 ∷ 0 ∷ 3 ∷ 2 ∷ []) $
    by ! (leaves 𝓛 En hs c z (two here h') out (new, ((tt, (tt, tt)), (tt, tt))) (tt, (tt, (tt, tt)))))))))))))))))))))
