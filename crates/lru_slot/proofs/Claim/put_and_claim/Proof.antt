-- `put_and_claim` swaps the value in a round of readers that begins with its store.
use Rattle.std.proofs.Common.{◌≡◌, ℕ, ◌+◌, ◌%◌, ◌^◌, ◌<◌, ◌≤◌, List, [], ◌∷◌}
use Rattle.std.proofs.Common.{◌++◌, sym, refl, ap, subst, lit<, w64, Some}
use mir.Syntax.{dcons, dnil, a_type}
use mir.Val.{Val, vint, vptr, vstruct, vcons, vnil, of_list, has_ty}
use mir.MapTy.{inst_fn}
use base.Fraction.{full_share}
use base.Logic.{SProp, ent, wand, emp, id⊢, via, apply∗, guard_i}
use base.Fml.{fwand, fupd, fdead, fseps, Lft, Share, Fml, ftrue, fsep, fex, feq, flft, fbor, finv}
use base.Before.{before}
use prog.Wp.{WpFn}
use ghost.Rules.{Toks}
use types.Logic.{sem, lfts}
use types.Kit.{‵, raw, ◌⊛◌, some, given, later, mean, at_ret, ◌$◌, ◌∵◌, !, qed, by, move, keep}
use types.Kit.{drop, group, split, split3, join, fsplit, fsplit3, fjoin, fjoin3, fpick, fpack, pick}
use types.Kit.{learn}
use types.Kit.{use0, use1, use2, use3, await, rewrite, feq_i}
use types.Run.{stop, fld, load, addr, lit, of_opd, no_more, and_then, first, blocks, exec}
use types.Run.{assigns, look_raw, store_raw, Calls-last, returns, enter}
use types.ByLocal.{alloc_all, pass_all, free_all, look_at, get, get_in, through, sets, sets_last}
use types.ByLocal.{lands_last, is, env}
use types.Part.{agg, sub, whole}
use types.Tokens.{bor_open, obor_alter, one_token}
use types.Na.{before_dup}
use contract.Running.{tables}
use contract.Monad.{fact, fact_i, fact_use}
use contract.BorrowLft.{◌⊑◌}
use contract.Shared.{Lends-one}
use denote.Exit.{yes, no}
use denote.RattleType.{RattleType, Valss, owns}
use denote.Signature.{types_at, plain, named_lft}
use denote.RawPtr.{Ptr, InBlock, block_ptr, ptr_val, block_of, count_of, at_block}
use denote.Steps.{nothing, peeks, heard}
use denote.Laws.{Is, shows}
use denote.Memory.{part_of, cell_at}
use denote.Param.{param, layout, bounded}
use denote.Param.Laws.{param_laws}
use denote.Builtin.{u64}
use denote.Triple.Walked.{Stays, stay_dropped, walk_of, Goes-dropped}
use Rattle.core.proofs.atomic.Steps.{tail}
use Rattle.core.proofs.mem.Param.{El, lawful, Good, one}
use Rattle.std.proofs.ResultValues.{and_tt}
use Rattle.atomic_table.proofs.Walks.{proved_at, leaves}
use Rattle.atomic_table.proofs.Calls.{fm, seq_cst, stored, has_stored}
use Rattle.atomic_table.proofs.Calls.{stores}
use Rattle.counted_slot.specs.Counting.{readers, Id, offset, cell, Inv}
use Rattle.counted_slot.specs.Counting.{kept, right_to, claim_owns}
use Rattle.counted_slot.proofs.Fields.{hand_of, typed, Words, told, made, owns_placed}
use Rattle.lru_slot.specs.contracts.Claim as claim
use Rattle.lru_slot.proofs.Put as put
use Rattle.lru_slot.specs.contracts.Claim.put_and_claim.{ended, clauses}
use Rattle.lru_slot.specs.contracts.Claim.put_and_claim.Key.{name as #self}
use Rattle.lru_slot.proofs.Claim.put_and_claim.Statement.{statement}
use Rattle.lru_slot.proofs.Claim.put_and_claim.Code as code

pub put_and_claim_spec : {M : Type 1} → statement M
unfolding part_of fseps
put_and_claim_spec 𝓤 𝓛 𝓜 𝓡 wired X Y L _ g d _ =
    let H = 𝓛.H in let 𝓣 = tables 𝓤 H 𝓜 𝓡 𝓡.env in
    let R : RattleType = param 0 X in let G : RattleType = param 1 Y in
    let En = ended X Y g d in let c = clauses X Y g d 𝓛 𝓜.mem 𝓡.returns in
    let E : El = record { row = X; laws = L } in
    let inst = bounded (a_type ∷ a_type ∷ []) (X, (Y, tt)) (dcons d dnil) in
    let fn = inst_fn inst code.function in let LR = param_laws 0 X L in
    let self = plain (λ κs. claim.the_row (named_lft 3 0 tt κs) R G g) in
    let item = plain (λ _. R) in let number = plain (λ _. u64) in
    let hs : Stays En.signature.params En.kept =
    (stay_dropped self no, (stay_dropped item no, (stay_dropped number yes, tt))) in
    proved_at 𝓛 En hs c 𝓜 𝓡 (
      Goes-dropped 𝓛 3 self no (λ κs x f. refl),
      (
        Goes-dropped 𝓛 3 item no (λ κs x f. refl),
        (Goes-dropped 𝓛 3 number yes (λ κs x f. refl), tt),
      ),
    )
    (#self inst) fn (code.unfolded 𝓤 H 𝓜 𝓡 wired (X, (Y, tt)) d) (λ z are.
    let κs = z.0.0 in let qs = z.0.1 in let a = z.0.3 in
    let ℓ = named_lft 3 0 tt κs in let Hr : RattleType = claim.the_row ℓ R G g in
    let h : Hr.Denot = a.0 in let p : Ptr = h.slot in
    let b : ℕ = block_of p in let o : ℕ = count_of p in let e : ℕ = o + offset R in
    let x : X.Denot = a.1.0 in let new : ℕ = a.1.1.0 in let k : ℕ = readers new in
    let ok = g.fits h.tag in
    let β : Lft = κs.0 in let q : Share = qs.0 in let τ : Lft = κs.1.0 in let r : Share = qs.1.0 in
    let rest : Fml = fsep (flft κs.1.1.0 qs.1.1.0) ftrue in
    let owned : Fml = claim_owns β R ok p h.right h.value in
    let got = one E z.0.4.1.0 ((lawful E 𝓛).typed x z.0.4.1.0 are.1.0) in
    let vx : Val = got.0 in let fx : Good E vx = got.2 in
    let fits : new < 2 ^ 64 = are.1.1.0.1 in
    let At : List Val × (List Val × (List Val × Unit {0})) → (walk_of 𝓛 En hs c).Ghost =
    λ vss. ((κs, qs, z.0.2, a, vss), z.1) in
    let us : List Val × (List Val × (List Val × Unit {0})) =
    (hand_of p ∷ [], (vx ∷ [], (vint w64 new ∷ [], tt))) in
    let y : (walk_of 𝓛 En hs c).Ghost = At us in
    let Post : Val → SProp 𝓤 = (walk_of 𝓛 En hs c).post y in
    let Write : Type 0 = h.right ≡ 2 in
    let Fills : Type 0 = (new % 4 < 3) × (k ≤ 1) × (k ≤ new % 4) in
    subst (λ (vss : List Val × (List Val × (List Val × Unit {0}))).
    ent 𝓤 ((walk_of 𝓛 En hs c).pre (At vss))
    (WpFn 𝓤 H 𝓣.C 𝓣.Λ fn ((walk_of 𝓛 En hs c).args (At vss)) ((walk_of 𝓛 En hs c).post (At vss))))
    (λ i. (sym (told ℓ R G g p z.0.4.0 are.0.0) i, (sym got.1 i, (sym are.1.1.0.0 i, tt)))) (
    qed 𝓛 (((‵ (flft β q) ⊛ ‵ (flft τ r) ⊛ ‵ rest)
    ⊛ ‵ (owns (types_at En.signature.params κs) a y.0.4))
    ∷ raw (fact 𝓤 (τ ⊑ X.lives)) ∷ raw (fact 𝓤 _)
    ∷ (raw (fact 𝓤 Write) ⊛ raw (fact 𝓤 Fills) ⊛ raw (fact 𝓤 (ok x))) ∷ []) ∵
    move ! (1 ∷ []) $ heard ! (τ ⊑ X.lives) (λ le. move ! (2 ∷ []) $ split3 ! $
    heard ! Write (λ write. heard ! Fills (λ fills. heard ! (ok x) (λ fit.
    move ! (1 ∷ []) $ drop ! $ split ! $ split3 ! $
    move ! (3 ∷ []) $ fsplit3 ! $ fsplit ! $ keep ! (1 ∷ 2 ∷ 4 ∷ 5 ∷ 6 ∷ []) $
    use1 𝓛 (given (InBlock p) (‵ owned)) (fact_use 𝓤 _ (owns_placed 𝓛 β R ok p h.right h.value)
    (guard_i 𝓤 (InBlock p) (sem 𝓛 owned))) $ learn ! (λ inb.
    let at : p ≡ block_ptr b o = at_block p inb in
    rewrite ! 0 (λ (w : Ptr × ℕ). ‵ (claim_owns β R ok w.0 w.1 h.value)) (λ i. (at i, write i))
    refl $
    enter ! 𝓣.C 𝓣.Λ fn (hand_of p ∷ vx ∷ vint w64 new ∷ []) Post $
    alloc_all ! (λ l. pass_all ! refl (typed p inb, (fx, ((tt, record { fits = fits }), tt))) $
    let Ev = env fn.locals l in
    -- the slot's invariant is used by the store, and kept for the claim
    fpick ! (λ t. let J : Fml = fbor t.0 (Inv R ok b o t) in fsplit ! $ fsplit ! $ move ! (2 ∷ []) $
    fsplit ! $ move ! (2 ∷ []) $
    use1 𝓛 (‵ (before β t.0) ⊛ ‵ (before β t.0)) (before_dup 𝓛 β t.0) $ split ! $
    move ! (4 ∷ []) $ use1 𝓛 (‵ (finv J) ⊛ ‵ (finv J)) (𝓛.invs.inv_dup J) $ split ! $
    move ! (2 ∷ 0 ∷ []) $ fjoin ! $ move ! (2 ∷ 6 ∷ []) $
    let back : Share → SProp 𝓤 = λ s. wand 𝓤 (𝓛.A.lft t.0 s) (H.⇛ (𝓛.A.lft β q)) in
    use2 𝓛 (later (some (λ (s : Share). ‵ (flft t.0 s) ⊛ raw (back s))))
    (Lends-one 𝓛 𝓜 𝓡 β t.0 q) $ await ! tt $ pick ! (λ s. split ! $
    -- a round begins, for whose lifetime the cell is open meanwhile
    move ! (5 ∷ []) $ use1 𝓛 (later (‵ (fex ℕ (put.begun 𝓛 R ok b o t))))
    (put.begins 𝓛 R ok b o t) $
    await ! tt $ fpick ! (λ j. fsplit3 ! $ move ! (0 ∷ 3 ∷ []) $ group ! 2 $
    let ν : Lft = j ∷ t.0 in let ts : Toks = (j ∷ [], full_share) ∷ (t.0, s) ∷ [] in
    use1 𝓛 (some (λ (w : Share). ‵ (flft ν w) ⊛ raw (wand 𝓤 (𝓛.A.lft ν w) (lfts 𝓛 ts))))
    (one_token 𝓛 ts) $ pick ! (λ w. split ! $ move ! (3 ∷ 0 ∷ []) $ bor_open ! tt $
    move ! (1 ∷ []) $ fpick ! (λ old. fsplit ! $ move ! (1 ∷ []) $ fpick ! (λ old_fit. drop ! $
    fpick ! (λ vs. fsplit ! $ move ! (1 ∷ []) $ peeks ! R (Is R) (shows 𝓛 R) old vs (λ is_so.
    let was = one E vs ((lawful E 𝓛).typed old vs is_so) in
    let vo : Val = was.0 in let fo : Good E vo = was.2 in
    let cells : List Val → Fml = λ ws. cell_at full_share R.mir ws b e in
    rewrite ! 0 (λ (ws : List Val). ‵ (R.own_val old ws)) was.1 refl $
    rewrite ! 1 (λ (ws : List Val). ‵ (cells ws)) was.1 refl $ move ! (1 ∷ []) $
    -- [the cell; the old value; the open borrow; the tokens of ν and of β; the claim's; the new]
    sets ! (is ! (of_opd ! (get_in ! (fld ! refl (stop !)) (sub ! 0 refl (whole !))))
    (ap ptr_val at)) refl (tt, tt) $
    sets ! (of_opd ! (get_in ! (fld ! refl (stop !)) (sub ! 1 refl (whole !)))) refl (tt, tt) $
    first ! $ blocks ! $ sets ! (addr ! (through ! refl (fld ! refl (stop !)))) refl (tt, tt) $
    sets ! (of_opd ! (load ! (through ! refl (stop !)) (look_raw ! 0 refl))) refl fo $
    sets ! (of_opd ! (get ! refl)) refl fx $
    assigns ! (of_opd ! (get ! refl)) (through ! refl (stop !)) (store_raw ! 0 refl fx) $
    sets_last ! (of_opd ! (get ! refl)) refl fo $
    exec ! 𝓣.C 𝓣.Λ Ev (tail (tail (tail fn.body))) (at_ret Ev Post) $
    sets ! (of_opd ! (get ! refl)) refl fo $
    -- the open borrow becomes one of the new value, which the round's readers see
    move ! (0 ∷ 9 ∷ []) $ fjoin ! $
    fpack ! (List Val) (λ ws. fsep (cells ws) (R.own_val x ws)) (vx ∷ []) $
    nothing ! $ move ! (1 ∷ 0 ∷ []) $ fjoin ! $
    use0 𝓛 (‵ (fwand (fsep (fdead ν) (fseps (put.At 𝓛 R ok b o t x ∷ [])))
    (fupd (cell R ok b o)))) (put.put_back 𝓛 R ok b o t ν x fit) $
    move ! (3 ∷ 1 ∷ 0 ∷ []) $ obor_alter ! tt (put.At 𝓛 R ok b o t x ∷ []) $
    use1 𝓛 (‵ (fbor ν (put.At 𝓛 R ok b o t x)) ⊛ ‵ ftrue) (id⊢ 𝓤 _) $ split ! $
    move ! (2 ∷ 4 ∷ []) $ use2 𝓛 (‵ (flft (j ∷ []) full_share) ⊛ ‵ (flft t.0 s))
    (apply∗ 𝓤 (𝓛.A.lft ν w) (lfts 𝓛 ts)) $ split ! $
    move ! (5 ∷ 2 ∷ 0 ∷ 1 ∷ 10 ∷ []) $ group ! 5 $
    use1 𝓛 (later (‵ (put.told 𝓛 R ok b o t x j) ⊛ ‵ (flft t.0 s) ⊛ ‵ (flft τ r)))
    (put.tells 𝓛 R ok b o t R.lives (LR.shares 𝓛) x fit j s τ r le) $ await ! tt $ split3 ! $
    use1 𝓛 (later (‵ (put.Brought 𝓛 R ok b o t new x)))
    (put.brings 𝓛 R ok b o t new x fills.0 j) $ await ! tt $ move ! (8 ∷ 0 ∷ []) $ fjoin ! $
    -- [the offer; the tokens of α and τ; the old value; the claim's; the invariant; the others]
    let Got : Fml = right_to R ok b o t k (Some x) in
    let after : Fml = fsep (flft t.0 s) Got in
    first ! $ blocks ! $ sets ! (addr ! (through ! refl (fld ! refl (stop !)))) refl (tt, tt) $
    move ! (7 ∷ 1 ∷ 0 ∷ []) $
    use3 𝓛 (raw (𝓣.C _ (vptr b (o + 0) ∷ vint w64 new ∷ seq_cst ∷ [])
    (λ u. mean 𝓛 (stored after u))))
    (via 𝓤 _ (put.puts 𝓛 R ok b o t new x LR.shr_laws fills.0 k refl fills.1 fills.2 s)
    (stores 𝓛 𝓜 𝓡 (code.calls-core::raw_atomic::store 𝓡.env wired) (block_ptr b (o + 0)) new fits
    after)) $
    sets ! (agg ! (and_then ! (lit ! tt) (no_more !))) refl
    (tt, (record { fits = lit< tt }, tt)) $
    Calls-last ! (fm 𝓛 𝓜 𝓡) (stored after)
    (and_then ! (get ! refl) (and_then ! (get ! refl) (and_then ! (get ! refl) (no_more !))))
    (λ u. has_stored ! after (lands_last ! refl (tt, tt) $
    exec ! 𝓣.C 𝓣.Λ Ev (tail (tail (tail (tail (tail fn.body))))) (at_ret Ev Post) $
    sets ! (of_opd ! (get ! refl)) refl fo $
    sets ! (agg ! (and_then ! (get ! refl) (and_then ! (get ! refl) (no_more !)))) refl
    (tt, (tt, (tt, tt))) $
    sets ! (agg ! (and_then ! (get ! refl) (and_then ! (get ! refl) (no_more !)))) refl
    (and_tt (has_ty (layout X) vo) fo.0, (fo.1, ((tt, (tt, tt)), tt))) $
    fsplit ! $ move ! (0 ∷ 5 ∷ []) $ use2 𝓛 (later (‵ (flft β q)))
    (apply∗ 𝓤 (𝓛.A.lft t.0 s) (H.⇛ (𝓛.A.lft β q))) $ await ! tt $
    move ! (2 ∷ 6 ∷ []) $ join ! $ move ! (1 ∷ 0 ∷ []) $ join ! $
    move ! (4 ∷ 1 ∷ []) $ fjoin ! $
    fpack ! Id (λ m. fsep (kept R ok b o m β) (right_to R ok b o m k (Some x))) t $
    let p' : Ptr = block_ptr b o in
    let h' : Hr.Denot =
    record { slot = p'; life = record {}; tag = h.tag; right = k; value = Some x } in
    let v : Val = vstruct (vcons vo (vcons (hand_of p') vnil)) in
    use0 𝓛 (‵ ((Words ℓ R G g).own_val (p', (tt, tt)) (hand_of p' ∷ []))) (made ℓ R G g 𝓛 p') $
    fjoin ! $ move ! (3 ∷ 0 ∷ 2 ∷ []) $ fjoin3 ! $
    feq_i ! (List Val) (v ∷ []) (v ∷ []) refl $ fjoin ! $
    fpack ! (Valss (R ∷ Hr ∷ []))
    (λ vss. fsep (feq (List Val) (v ∷ []) (vstruct (of_list (vss.0 ++ (vss.1.0 ++ []))) ∷ []))
    (owns (R ∷ Hr ∷ []) (old, (h', tt)) vss)) (vo ∷ [], (hand_of p' ∷ [], tt)) $
    use0 𝓛 (raw (fact 𝓤 (Some x ≡ Some x))) (fact_i 𝓤 (Some x ≡ Some x) (emp 𝓤) refl) $
    use0 𝓛 (raw (fact 𝓤 (h.tag ≡ h.tag))) (fact_i 𝓤 (h.tag ≡ h.tag) (emp 𝓤) refl) $ join ! $
    use0 𝓛 (raw (fact 𝓤 (k ≡ k))) (fact_i 𝓤 (k ≡ k) (emp 𝓤) refl) $ join ! $
    use0 𝓛 (raw (fact 𝓤 (ok old))) (fact_i 𝓤 (ok old) (emp 𝓤) old_fit) $ join ! $
    nothing ! $ nothing ! $ fjoin ! $ nothing ! $ fjoin ! $ nothing ! $ fjoin ! $
    returns ! (look_at ! 0 refl) $ free_all ! refl $ keep ! (3 ∷ 0 ∷ 2 ∷ 1 ∷ []) $
    by ! (leaves 𝓛 En hs c y v (old, h') (tt, (tt, (tt, tt)))
    (tt, (tt, (tt, tt))))))))))))))))))))))
