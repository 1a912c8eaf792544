-- `turn` is one compare-exchange, and the claim has what it gained.
use Rattle.std.proofs.Common.{◌≡◌, ◌≢◌, ℕ, ◌+◌, ◌^◌, List, [], ◌∷◌}
use Rattle.std.proofs.Common.{◌++◌, refl, w64, Option}
use mir.Syntax.{dcons, dnil, a_type, named}
use mir.Val.{Val, vint, vptr, vstruct, vcons, vnil, of_list}
use mir.MapTy.{inst_fn}
use base.Logic.{SProp, wand, emp, via, apply∗}
use base.Fml.{Lft, Share, Fml, ftrue, fsep, feq, flft, fbor, finv}
use base.Before.{before}
use types.Kit.{‵, raw, ◌⊛◌, some, later, mean, at_ret, ◌$◌, ◌∵◌, !, qed, by, move, keep, drop}
use types.Kit.{split, join, fsplit, fjoin, fjoin3, fpick, fpack, pick}
use types.Kit.{use0, use1, use2, use3, await, feq_i, flt_i}
use types.Run.{stop, fld, addr, of_opd, no_more, and_then, first, blocks, exec}
use types.Run.{Calls-last, returns, enter}
use types.ByLocal.{alloc_all, pass_all, free_all, look_at, get, through, sets}
use types.ByLocal.{lands_last, env}
use types.Part.{agg}
use types.Na.{before_dup}
use contract.Running.{tables}
use contract.Monad.{fact, fact_i}
use contract.Shared.{Lends-one}
use denote.Exit.{yes}
use denote.RattleType.{RattleType, Valss, owns}
use denote.Signature.{types_at, plain, named_lft}
use denote.RawPtr.{Ptr, block_ptr}
use denote.Steps.{nothing, heard}
use denote.Opens.{unhide}
use denote.Param.{param, bounded}
use denote.Param.Laws.{param_laws}
use denote.Builtin.{RefOf, u64}
use denote.Ref.{shr_vals, shr_Tells}
use denote.Plain.{uint_vals, uint_Tells}
use denote.Triple.Walked.{Stays, stay_dropped, walk_of, Goes-dropped}
use Rattle.core.proofs.atomic.Steps.{tail}
use Rattle.atomic_table.proofs.Walks.{proved, leaves}
use Rattle.atomic_table.proofs.Calls.{fm, found, finds}
use Rattle.atomic_table.proofs.Calls.{exchanges}
use Rattle.counted_slot.specs.Counting.{IsTurn, Gains, Id, Inv}
use Rattle.counted_slot.specs.Counting.{kept, right_to}
use Rattle.counted_slot.proofs.Fields.{hand_of, Words, made}
use Rattle.counted_slot.proofs.Steps as steps
use Rattle.lru_slot.specs.contracts.Counted as slot
use Rattle.lru_slot.specs.contracts.Claim as claim
use Rattle.lru_slot.specs.contracts.Counted.turn.{ended, clauses}
use Rattle.lru_slot.specs.contracts.Counted.turn.Key.{name as #self}
use Rattle.lru_slot.proofs.Counted.turn.Statement.{statement}
use Rattle.lru_slot.proofs.Counted.turn.Code as code

pub turn_spec : {M : Type 1} → statement M
turn_spec 𝓤 𝓛 𝓜 𝓡 wired X Y L _ g d _ =
    let H = 𝓛.H in let 𝓣 = tables 𝓤 H 𝓜 𝓡 𝓡.env in
    let R : RattleType = param 0 X in let G : RattleType = param 1 Y in
    let En = ended X Y g d in let c = clauses X Y g d 𝓛 𝓜.mem 𝓡.returns in
    let inst = bounded (a_type ∷ a_type ∷ []) (X, (Y, tt)) (dcons d dnil) in
    let fn = inst_fn inst code.function in
    let Row : RattleType = slot.the_row R G g in
    let self = RefOf (0 ∷ []) tt (plain (λ _. Row)) (λ _. tt) in let number = plain (λ _. u64) in
    let hs : Stays En.signature.params En.kept =
    (stay_dropped self yes, (stay_dropped number yes, (stay_dropped number yes, tt))) in
    proved 𝓛 En hs c 𝓜 𝓡 (
      Goes-dropped 𝓛 3 self yes (λ κs x f. refl),
      (
        Goes-dropped 𝓛 3 number yes (λ κs x f. refl),
        (Goes-dropped 𝓛 3 number yes (λ κs x f. refl), tt),
      ),
    )
    (#self inst) fn (code.unfolded 𝓤 H 𝓜 𝓡 wired (X, (Y, tt)) d)
    (λ κs. (shr_vals, (uint_vals w64, (uint_vals w64, tt))))
    (λ κs. (shr_Tells (named 0) κs.0 Row, (uint_Tells w64, (uint_Tells w64, tt))))
    (λ κs qs bounds a gh are.
    let b : ℕ = a.0.ref_ptr.0 in let o : ℕ = a.0.ref_ptr.1 in let p : Ptr = block_ptr b o in
    let tag : Y.Denot = a.0.now in let ok = g.fits tag in
    let old : ℕ = a.1.0 in let new : ℕ = a.1.1.0 in
    let κ : Lft = κs.0 in let q : Share = qs.0 in
    let others : Fml = fsep (flft κs.1.0 qs.1.0) (fsep (flft κs.1.1.0 qs.1.1.0) ftrue) in
    let ℓ = named_lft 3 0 tt κs in let Hr : RattleType = claim.the_row ℓ R G g in
    let us : List Val = vptr b o ∷ vint w64 old ∷ vint w64 new ∷ [] in
    let y : (walk_of 𝓛 En hs c).Ghost = (
      (
        κs,
        qs,
        bounds,
        a,
        (vptr b o ∷ [], (vint w64 old ∷ [], (vint w64 new ∷ [], tt))),
      ),
      gh,
    ) in
    let Post : Val → SProp 𝓤 = (walk_of 𝓛 En hs c).post y in
    qed 𝓛 (((‵ (flft κ q) ⊛ ‵ others) ⊛ ‵ (owns (types_at En.signature.params κs) a y.0.4))
    ∷ raw (fact 𝓤 _) ∷ raw (fact 𝓤 _) ∷ raw (fact 𝓤 (IsTurn old new)) ∷ []) ∵
    keep ! (3 ∷ 0 ∷ []) $ heard ! (IsTurn old new) (λ asked. split ! $ split ! $
    move ! (2 ∷ []) $ fsplit ! $ fsplit ! $ keep ! (1 ∷ 3 ∷ 4 ∷ []) $
    enter ! 𝓣.C 𝓣.Λ fn us Post $ alloc_all ! (λ l.
    pass_all ! refl (
      (tt, tt),
      (
        (tt, record { fits = are.1.0.1 }),
        ((tt, record { fits = are.1.1.0.1 }), tt),
      ),
    ) $
    -- the invariant is used by this step, and kept for the claim
    unhide ! $ fpick ! (λ t. let J : Fml = fbor t.0 (Inv R ok b o t) in fsplit ! $
    use1 𝓛 (‵ (before κ t.0) ⊛ ‵ (before κ t.0)) (before_dup 𝓛 κ t.0) $ split ! $
    move ! (2 ∷ []) $ use1 𝓛 (‵ (finv J) ⊛ ‵ (finv J)) (𝓛.invs.inv_dup J) $ split ! $
    move ! (2 ∷ 0 ∷ []) $ fjoin ! $ move ! (2 ∷ 3 ∷ []) $
    let back : Share → SProp 𝓤 = λ s. wand 𝓤 (𝓛.A.lft t.0 s) (H.⇛ (𝓛.A.lft κ q)) in
    use2 𝓛 (later (some (λ (s : Share). ‵ (flft t.0 s) ⊛ raw (back s))))
    (Lends-one 𝓛 𝓜 𝓡 κ t.0 q) $ await ! tt $ pick ! (λ s. split ! $
    let Rl = (param_laws 0 X L).shr_laws in
    let Won : ℕ → Fml = steps.Won 𝓛 R ok b o t s Rl old new asked in
    let after : ℕ → Fml = λ n. fsep (flft t.0 s) (Won n) in
    first ! $ blocks ! $ sets ! (addr ! (through ! refl (fld ! refl (stop !)))) refl (tt, tt) $
    nothing ! $ move ! (4 ∷ 1 ∷ 0 ∷ []) $
    use3 𝓛 (raw (𝓣.C _ (vptr b (o + 0) ∷ vint w64 old ∷ vint w64 new ∷ [])
    (λ u. mean 𝓛 (found after u)))) (via 𝓤 _ (steps.turns 𝓛 R ok b o t s Rl old new asked)
    (exchanges 𝓛 𝓜 𝓡 (code.calls-atomic_table::exchange 𝓡.env wired) (block_ptr b (o + 0)) old new
    are.1.0.1 are.1.1.0.1 after)) $
    Calls-last ! (fm 𝓛 𝓜 𝓡) (found after)
    (and_then ! (get ! refl) (and_then ! (get ! refl) (and_then ! (get ! refl) (no_more !))))
    (λ u. finds ! after (λ n fits. lands_last ! refl (tt, record { fits = fits }) $
    exec ! 𝓣.C 𝓣.Λ (env fn.locals l) (tail fn.body) (at_ret (env fn.locals l) Post) $
    sets ! (of_opd ! (get ! refl)) refl (tt, record { fits = fits }) $
    sets ! (addr ! (through ! refl (stop !))) refl (tt, tt) $
    sets ! (agg ! (no_more !)) refl (tt, tt) $
    sets ! (agg ! (and_then ! (get ! refl) (and_then ! (get ! refl) (no_more !)))) refl
    (tt, (tt, (tt, tt))) $
    sets ! (of_opd ! (get ! refl)) refl (tt, (tt, (tt, tt))) $
    sets ! (agg ! (and_then ! (get ! refl) (and_then ! (get ! refl) (no_more !)))) refl
    (tt, (record { fits = fits }, ((tt, (tt, tt)), tt))) $
    fsplit ! $ move ! (0 ∷ 2 ∷ []) $ use2 𝓛 (later (‵ (flft κ q)))
    (apply∗ 𝓤 (𝓛.A.lft t.0 s) (H.⇛ (𝓛.A.lft κ q))) $ await ! tt $
    move ! (0 ∷ 3 ∷ []) $ join ! $ move ! (1 ∷ []) $
    -- [what was won; the tokens; what was kept of the slot]
    fpick ! (λ w. fsplit ! $ fpick ! (λ so. drop ! $
    let k : ℕ = steps.rank w in let v : Option X.Denot = steps.shown_value w in
    use1 𝓛 (later (‵ (right_to R ok b o t k v))) (steps.settles 𝓛 R ok b o t w) $ await ! tt $
    move ! (2 ∷ 0 ∷ []) $ fjoin ! $
    fpack ! Id (λ z. fsep (kept R ok b o z κ) (right_to R ok b o z k v)) t $
    let h : Hr.Denot =
    record { slot = p; life = record {}; tag = tag; right = k; value = v } in
    let r : Val = vstruct (vcons (vint w64 n) (vcons (hand_of p) vnil)) in
    let Wins : Type 0 = n ≡ old → Gains old new k in let Fails : Type 0 = n ≢ old → k ≡ 0 in
    use0 𝓛 (‵ ((Words ℓ R G g).own_val (p, (tt, tt)) (hand_of p ∷ []))) (made ℓ R G g 𝓛 p) $
    fjoin ! $ nothing ! $ flt_i ! n (2 ^ 64) fits $
    feq_i ! (List Val) (vint w64 n ∷ []) (vint w64 n ∷ []) refl $ fjoin ! $
    move ! (0 ∷ 2 ∷ 1 ∷ []) $ fjoin3 ! $
    feq_i ! (List Val) (r ∷ []) (r ∷ []) refl $ fjoin ! $
    fpack ! (Valss (u64 ∷ Hr ∷ []))
    (λ vss. fsep (feq (List Val) (r ∷ []) (vstruct (of_list (vss.0 ++ (vss.1.0 ++ []))) ∷ []))
    (owns (u64 ∷ Hr ∷ []) (n, (h, tt)) vss)) (vint w64 n ∷ [], (hand_of p ∷ [], tt)) $
    use0 𝓛 (raw (fact 𝓤 (tag ≡ tag))) (fact_i 𝓤 (tag ≡ tag) (emp 𝓤) refl) $
    use0 𝓛 (raw (fact 𝓤 Fails)) (fact_i 𝓤 Fails (emp 𝓤) so.1) $ join ! $
    use0 𝓛 (raw (fact 𝓤 Wins)) (fact_i 𝓤 Wins (emp 𝓤) so.0) $ join ! $
    nothing ! $ nothing ! $ fjoin ! $ nothing ! $ fjoin ! $ nothing ! $ fjoin ! $
    returns ! (look_at ! 0 refl) $ free_all ! refl $ keep ! (3 ∷ 0 ∷ 2 ∷ 1 ∷ []) $
    by ! (leaves 𝓛 En hs c y r (n, h) (tt, (tt, (tt, tt))) (tt, (tt, (tt, tt)))))))))))))
