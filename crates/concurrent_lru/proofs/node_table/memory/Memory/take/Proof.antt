-- `take` closes the memory over the other values, and makes a box of the one taken out. Assumes
-- `Logic`.
use Rattle.std.proofs.Common.{◌≡◌, List, [], ◌∷◌, ◌++◌, Some, None, refl, sym, ap, ◌∙◌, subst}
use mir.Raw.{raw as bare}
use mir.MapTy.{inst_fn}
use mir.Val.{Val, vptr}
use base.Fraction.{full_share}
use base.Logic.{SProp, emp, never, id⊢, fst∗}
use base.Fml.{ftrue, fat, flft}
use prog.Wp.{WpFn}
use types.Logic.{sem}
use types.Kit.{‵, raw, ◌⊛◌, some, later, at_ret, prop, ◌$◌, ◌∵◌, !, qed, by, move, keep, drop, split, split3, join, fsplit, fsplit3, fjoin, fjoin3, feq_i, feq_l, flt_l, pick, use0, use1, await, rewrite, regoal}
use types.Run.{stop, fld, of_opd, no_more, and_then, first, blocks, exec, returns, enter}
use types.ByLocal.{alloc_all, pass_all, free_all, look_at, get, get_in, sets, lands_last, env, take_at, give_at}
use types.Part.{sub, whole}
use contract.Monad.{fact, fact_i}
use contract.Running.{tables}
use denote.Builtin.{usize}
use denote.Exit.{yes, no}
use denote.Param.{layout}
use denote.RattleType.{owns}
use denote.RawPtr.{Ptr, block_ptr, null_ptr, in_a_block}
use denote.Memory.{lone}
use denote.Signature.{types_at, plain}
use denote.Steps.{nothing, only, heard, opens, closes}
use denote.Triple.Call.{calls_at_last}
use denote.Triple.Clauses.{Lasts, lasts}
use denote.Triple.Spec.{triple_of}
use denote.Triple.Walked.{Stays, stay_dropped, stay_ref, walk_of, Goes-dropped, Goes-ref}
use Rattle.core.proofs.alloc.Calls.{Goes-blank, handle_tells}
use Rattle.core.proofs.alloc.Shapes.{after}
use Rattle.core.proofs.atomic.Steps.{fm}
use Rattle.core.proofs.cell.Inside.{Good}
use Rattle.std.proofs.raw_atomic.Walks.{proved_at, leaves}
use Rattle.std_alloc.specs.Box.Ownership.{box_owns}
use Rattle.std_alloc.proofs.BoxSteps.Form.{Bx, args, R, P, B, box_typed}
use Rattle.std_alloc.proofs.BoxSteps.Steps.{box_out, box_in}
use Rattle.std_alloc.proofs.RcSteps.{word, word-Good}
use Rattle.std_alloc.specs.contracts.boxed.Box.from_raw as callee
use Rattle.std_alloc.proofs.boxed.Box.from_raw.Met.{met}
use Rattle.concurrent_lru.specs.Cells.{cell_at, put_at}
use Rattle.concurrent_lru.proofs.Memory.Walks.{Mr, Ar, One, Owns, All, word_had, cell_out}
use Rattle.concurrent_lru.specs.contracts.node_table.memory.Memory.take.{ended, clauses}
use Rattle.concurrent_lru.specs.contracts.node_table.memory.Memory.take.Key.{name as #self}
use Rattle.concurrent_lru.proofs.node_table.memory.Memory.take.Statement.{statement}
use Rattle.concurrent_lru.proofs.node_table.memory.Memory.take.Code as code

pub take_spec : {M : Type 1} → statement M
take_spec 𝓤 𝓛 𝓜 𝓡 wired T A L LA g d dd allocator glued =
    let H = 𝓛.H in let 𝓣 = tables 𝓤 H 𝓜 𝓡 𝓡.env in
    let E : Bx = record { row = T; laws = L; al = record { row = A; laws = LA; g = g; d = d; drops = dd } } in
    let En = ended T A g d dd in let c = clauses T A g d dd 𝓛 𝓜.mem 𝓡.returns in let fn = inst_fn (args E) code.function in
    let hs : Stays En.signature.params En.kept = (stay_ref (0 ∷ []) tt (plain (λ _. Mr E)), (stay_dropped (plain (λ _. Ar E)) no, (stay_dropped (plain (λ _. usize)) yes, (stay_dropped (plain (λ _. P E)) no, tt)))) in
    proved_at 𝓛 En hs c 𝓜 𝓡 (Goes-ref 𝓛 3 0 tt (plain (λ _. Mr E)), (Goes-dropped 𝓛 3 (plain (λ _. Ar E)) no (λ κs x f. refl), (Goes-blank 𝓛 3 (plain (λ _. usize)) yes (λ κs x f. tt), (Goes-dropped 𝓛 3 (plain (λ _. P E)) no (λ κs x f. refl), tt))))
    (#self (args E)) fn (code.unfolded 𝓤 H 𝓜 𝓡 wired (T, (A, tt)) d dd) (λ z are.
    let κs = z.0.0 in let qs = z.0.1 in let self = z.0.3.0 in let at = z.0.3.1.0 in let slot = z.0.3.1.1.0 in let alloc = z.0.3.1.1.1.0 in
    let rb = self.ref_ptr.0 in let ro = self.ref_ptr.1 in let cells = self.now.cells in
    let Post : Val → SProp 𝓤 = (walk_of 𝓛 En hs c).post z in
    let toks = ‵ (flft κs.1.0 qs.1.0) ⊛ ‵ (flft κs.1.1.0 qs.1.1.0) ⊛ ‵ ftrue in
    let outer = raw (fact 𝓤 (contract.BorrowLft.◌⊑◌ κs.1.0 T.lives)) in let inner = raw (fact 𝓤 (contract.BorrowLft.◌⊑◌ κs.1.1.0 A.lives)) in
    let asked = raw (fact 𝓤 (Rattle.concurrent_lru.specs.Cells.HoldsBy cells slot at.ptr alloc)) in
    qed 𝓛 (((‵ (flft κs.0 qs.0) ⊛ toks) ⊛ ‵ (owns (types_at En.signature.params κs) z.0.3 z.0.4)) ∷ outer ∷ inner ∷ asked ∷ []) ∵
    move ! (3 ∷ []) $ heard ! _ (λ held. split ! $ split ! $ move ! (2 ∷ []) $
    -- [the parameters; the token of self; the others'; two bounds]
    fsplit ! $ fsplit3 ! $ feq_l ! (λ e0. move ! (2 ∷ []) $ fsplit ! $ word_had ! at.ptr z.0.4.1.0 (λ e1. fsplit ! $ fsplit ! $ feq_l ! (λ e2. flt_l ! (λ fits_slot. fsplit ! $
    handle_tells E.al ! alloc z.0.4.1.1.1.0 (λ h e3 fits. keep ! (2 ∷ 3 ∷ 4 ∷ 0 ∷ 5 ∷ 6 ∷ 7 ∷ []) $
    let one : One E = held.0 in let new : (Mr E).Denot = record { mark = self.now.mark; cells = put_at slot None cells } in
    let us : List Val = vptr rb ro ∷ word at.ptr ∷ mir.Val.vint mir.Syntax.w64 slot ∷ h ∷ [] in
    regoal ! (λ (ws : List Val). prop (WpFn 𝓤 H 𝓣.C 𝓣.Λ fn ws Post)) (λ i. e0 i ++ (e1 i ++ (e2 i ++ (e3 i ++ [])))) refl $
    enter ! 𝓣.C 𝓣.Λ fn us Post $ alloc_all ! (λ l. pass_all ! refl ((tt, tt), (word-Good [] at.ptr, ((tt, record { fits = fits_slot }), (fits, tt)))) $ let Ev = env fn.locals l in
    opens ! tt (Mr E) {h = self.now} rb ro (λ vs. move ! (1 ∷ []) $ fsplit ! $ move ! (1 ∷ []) $
    use1 𝓛 (‵ (Owns E (Some one)) ⊛ ‵ (All E (put_at slot None cells))) (cell_out E 𝓛 cells slot one held.1) $ split ! $
    in_a_block ! one.at (λ p. box_owns (g.dealloc_token one.alloc) (R E) p one.value) (fst∗ 𝓤 (never 𝓤) (sem 𝓛 (g.dealloc_token one.alloc (bare (lone (R E).mir)) null_ptr))) (λ b o e.
    -- [the box; the others; the mark; its cell; the open borrow; obs; auth; the handle; the tokens;
    -- two bounds]
    rewrite ! 0 (λ (a : (P E).Denot). ‵ (box_owns (g.dealloc_token a) (R E) (block_ptr b o) one.value)) held.3 refl $
    take_at ! 2 $ rewrite ! 0 (λ (p : Ptr). ‵ (fat full_share (layout (Ar E)) (l 2) 0 (word p))) (sym held.2 ∙ e) refl $ give_at ! 2 $
    move ! (2 ∷ 1 ∷ []) $ fjoin ! $ move ! (2 ∷ 0 ∷ 3 ∷ 4 ∷ 5 ∷ []) $ closes ! tt (Mr E) new vs rb ro $
    -- [obs; the borrow; the token; the box; the handle; the tokens; two bounds]
    let k = triple_of 𝓛 (callee.signature T A g d dd) (callee.spec T A g d dd 𝓛 𝓜.mem 𝓡.returns) in
    let y : k.Ghost = (((κs.1.0, (κs.1.1.0, tt)), (qs.1.0, (qs.1.1.0, tt)), tt, (alloc, (block_ptr b o, tt)), (h ∷ [], (vptr b o ∷ [], tt))), one.value) in
    move ! (7 ∷ 3 ∷ []) $ join ! $ move ! (6 ∷ 0 ∷ []) $ join ! $ nothing ! $ feq_i ! (List Val) (vptr b o ∷ []) (vptr b o ∷ []) refl $ fjoin ! $
    move ! (5 ∷ 0 ∷ []) $ fjoin ! $ move ! (5 ∷ 0 ∷ []) $ join ! $ join ! $ use1 𝓛 (raw (k.pre y)) (id⊢ 𝓤 _) $
    first ! $ blocks ! $ sets ! (of_opd ! (get ! refl)) refl fits $
    calls_at_last ! (fm 𝓛 𝓜 𝓡) k (met 𝓤 𝓛 𝓜 𝓡 (code.calls-std_alloc::boxed::Box::from_raw 𝓡.env wired) T A L LA g d dd allocator glued) y (and_then ! (get ! refl) (and_then ! (get_in ! (fld ! refl (stop !)) (sub ! 0 refl (whole !))) (no_more !))) (λ u.
    use1 𝓛 (later (some (λ (r : (B E).Denot). (toks ⊛ ‵ ((B E).own_val r (u ∷ []))) ⊛ some (λ (ls : Lasts (callee.ended T A g d dd) y.0.0 y.0.3). ‵ (lasts (callee.ended T A g d dd) y.0.0 y.0.3 ls) ⊛ (raw (fact 𝓤 (r.value ≡ one.value)) ⊛ raw (fact 𝓤 (r.alloc ≡ alloc))))))) (id⊢ 𝓤 (k.post y u)) $
    await ! tt $ pick ! (λ r. split ! $ move ! (1 ∷ []) $ pick ! (λ _. split3 ! $ drop ! $ heard ! (r.value ≡ one.value) (λ same. move ! (1 ∷ []) $ split ! $ move ! (1 ∷ []) $
    -- [the box; the tokens; its allocator; obs; the borrow; the token]
    box_out E ! r (u ∷ []) (λ b' o' h' e' ws fits'. box_in E ! r b' o' r.value e' refl $ rewrite ! 0 (λ (xs : List Val). ‵ ((B E).own_val r xs)) (sym ws) refl $
    let good : Good (layout (B E)) u = subst (Good (layout (B E))) (sym (ap only ws)) (box_typed E h' b' o' fits') in
    lands_last ! refl good $ exec ! 𝓣.C 𝓣.Λ Ev (after 1 fn.body) (at_ret Ev Post) $ sets ! (of_opd ! (get ! refl)) refl good $
    returns ! (look_at ! 0 refl) $ free_all ! refl $
    let given : (again : One E) → cell_at cells slot ≡ Some again → r.value ≡ again.value = (λ again is. let was : Some one ≡ Some again = sym held.1 ∙ is in let alike : one ≡ again = cc in same ∙ ap (λ (x : One E). x.value) alike) in
    use0 𝓛 (raw (fact 𝓤 (new.cells ≡ put_at slot None cells))) (fact_i 𝓤 (new.cells ≡ put_at slot None cells) (emp 𝓤) refl) $
    use0 𝓛 (raw (fact 𝓤 ((again : One E) → cell_at cells slot ≡ Some again → r.value ≡ again.value))) (fact_i 𝓤 ((again : One E) → cell_at cells slot ≡ Some again → r.value ≡ again.value) (emp 𝓤) given) $ join ! $
    -- [the clauses; the box; the tokens; its allocator; obs; the borrow; the token]
    move ! (6 ∷ 2 ∷ []) $ join ! $ feq_i ! (List Val) z.0.4.0 (vptr rb ro ∷ []) e0 $ move ! (0 ∷ 5 ∷ 6 ∷ []) $ fjoin3 ! $
    nothing ! $ nothing ! $ fjoin ! $ nothing ! $ fjoin ! $ nothing ! $ fjoin ! $ move ! (1 ∷ 0 ∷ []) $ fjoin ! $ keep ! (1 ∷ 0 ∷ 3 ∷ 2 ∷ []) $
    by ! (leaves 𝓛 En hs c z u r (new, (tt, (tt, (tt, tt)))) (tt, (tt, (tt, (tt, tt))))))))))))))))))))
