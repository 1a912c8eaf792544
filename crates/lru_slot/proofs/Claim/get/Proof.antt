-- `get` follows the claim's address to the value that its reader sees.
use Rattle.std.proofs.Common.{◌≡◌, ℕ, ◌+◌, List, [], ◌∷◌}
use Rattle.std.proofs.Common.{◌++◌, sym, refl, ap, ◌∙◌, Option, Some}
use mir.Syntax.{dcons, dnil, a_type, named}
use mir.Val.{Val, vptr}
use mir.MapTy.{inst_fn}
use base.Logic.{SProp, emp, guard_i}
use base.Fml.{fhide, Lft, Fml, ftrue, fsep, flft, Incl-refl}
use types.Logic.{sem}
use types.Kit.{‵, raw, ◌⊛◌, given, at_ret, ◌$◌, ◌∵◌, !, qed, by, move, keep, drop}
use types.Kit.{split, join, fsplit, fjoin, fpick, learn}
use types.Kit.{use0, use1, rewrite, feq_i}
use types.Run.{stop, fld, hop, addr, of_opd, first, blocks, exec}
use types.Run.{returns, enter}
use types.ByLocal.{alloc_all, pass_all, free_all, look_at, get, through, sets, sets_last}
use types.ByLocal.{env}
use types.Part.{sub, whole, look_in}
use contract.Running.{tables}
use contract.Monad.{fact, fact_i, fact_use}
use contract.BorrowLft.{⊑_meet}
use denote.Exit.{yes}
use denote.RattleType.{RattleType, owns}
use denote.Signature.{types_at, plain, named_lft}
use denote.RawPtr.{Ptr, InBlock, block_ptr, block_of, count_of, at_block}
use denote.Ref.{ShrRef}
use denote.Steps.{nothing, peeks, heard, looks, shuts}
use denote.Opens.{unhide}
use denote.Laws.{Is, shows}
use denote.Memory.{cell_at, hidden_shr, shared_of}
use denote.Param.{param, bounded}
use denote.Param.Laws.{param_laws}
use denote.Builtin.{RefOf}
use denote.Ref.{shr_vals, shr_Tells}
use denote.SharingLaws.{shortens}
use denote.Struct.Lending.{lent_out}
use denote.Triple.Walked.{Stays, stay_dropped, walk_of, Goes-dropped}
use Rattle.core.proofs.atomic.Steps.{tail}
use Rattle.core.specs.contracts.marker.PhantomData as marker
use Rattle.atomic_table.proofs.Walks.{proved, leaves}
use Rattle.counted_slot.specs.Counting.{offset}
use Rattle.counted_slot.specs.Counting.{claim_shares}
use Rattle.counted_slot.proofs.Fields.{hand_of, Words, told, opened}
use Rattle.counted_slot.proofs.Fields.{sees}
use Rattle.lru_slot.specs.contracts.Claim as claim
use Rattle.lru_slot.specs.contracts.Claim.get.{ended, clauses}
use Rattle.lru_slot.specs.contracts.Claim.get.Key.{name as #self}
use Rattle.lru_slot.proofs.Claim.get.Statement.{statement}
use Rattle.lru_slot.proofs.Claim.get.Code as code

pub get_spec : {M : Type 1} → statement M
get_spec 𝓤 𝓛 𝓜 𝓡 wired X Y L _ g d _ =
    let H = 𝓛.H in let 𝓣 = tables 𝓤 H 𝓜 𝓡 𝓡.env in
    let R : RattleType = param 0 X in let G : RattleType = param 1 Y in
    let En = ended X Y g d in let c = clauses X Y g d 𝓛 𝓜.mem 𝓡.returns in
    let inst = bounded (a_type ∷ a_type ∷ []) (X, (Y, tt)) (dcons d dnil) in
    let fn = inst_fn inst code.function in let LR = param_laws 0 X L in
    let row = plain (λ κs. claim.the_row (named_lft 4 1 tt κs) R G g) in
    let self = RefOf (0 ∷ []) tt row (λ _. tt) in
    let hs : Stays En.signature.params En.kept = (stay_dropped self yes, tt) in
    proved 𝓛 En hs c 𝓜 𝓡 (Goes-dropped 𝓛 4 self yes (λ κs x f. refl), tt)
    (#self inst) fn (code.unfolded 𝓤 H 𝓜 𝓡 wired (X, (Y, tt)) d)
    (λ κs. (shr_vals, tt))
    (λ κs. (shr_Tells (named 0) κs.0 (claim.the_row (named_lft 4 1 tt κs) R G g), tt))
    (λ κs qs bounds a gh are.
    let ℓ = named_lft 4 1 tt κs in let D : RattleType = Words ℓ R G g in
    let b : ℕ = a.0.ref_ptr.0 in let o : ℕ = a.0.ref_ptr.1 in
    let κ : Lft = κs.0 in let β : Lft = κs.1.0 in
    let h : (claim.the_row ℓ R G g).Denot = a.0.now in
    let p : Ptr = h.slot in let v : Option X.Denot = h.value in let ok = g.fits h.tag in
    let pb : ℕ = block_of p in let po : ℕ = count_of p in let e : ℕ = po + offset R in
    let others : Fml = fsep (flft β qs.1.0) (fsep (flft κs.1.1.0 qs.1.1.0)
    (fsep (flft κs.1.1.1.0 qs.1.1.1.0) ftrue)) in
    let lent : ℕ → Fml = λ k. claim_shares β R ok p k v κ in
    let Seen : Type 0 = InBlock p × ((x : X.Denot) × (v ≡ Some x)) in
    let y : (walk_of 𝓛 En hs c).Ghost = ((κs, qs, bounds, a, (vptr b o ∷ [], tt)), gh) in
    let Post : Val → SProp 𝓤 = (walk_of 𝓛 En hs c).post y in
    qed 𝓛 (((‵ (flft κ qs.0) ⊛ ‵ others) ⊛ ‵ (owns (types_at En.signature.params κs) a y.0.4))
    ∷ raw (fact 𝓤 _) ∷ raw (fact 𝓤 _) ∷ raw (fact 𝓤 (h.right ≡ 1)) ∷ []) ∵
    keep ! (3 ∷ 0 ∷ []) $ heard ! (h.right ≡ 1) (λ asked. split ! $ split ! $ move ! (2 ∷ []) $
    fsplit ! $ fsplit ! $ keep ! (1 ∷ 3 ∷ 4 ∷ []) $
    enter ! 𝓣.C 𝓣.Λ fn (vptr b o ∷ []) Post $ alloc_all ! (λ l. pass_all ! refl ((tt, tt), tt) $
    let Ev = env fn.locals l in
    use1 𝓛 (‵ (hidden_shr D κ (p, (tt, tt)) b o) ⊛ ‵ (fhide (lent h.right)))
    (lent_out 𝓛 (claim.struct ℓ R G g) (claim.the_codes X.Denot Y.Denot R.coded G.coded
    (marker.the_row (ShrRef ℓ.mir ℓ.lft R)).coded) (claim.the_heap β R G g)
    (claim.the_lent β R G g) κ h b o) $ split ! $ move ! (1 ∷ []) $ unhide ! $
    rewrite ! 0 (λ (k : ℕ). ‵ (lent k)) asked refl $
    use1 𝓛 (given Seen (‵ (lent 1))) (fact_use 𝓤 _ (sees 𝓛 β R ok p v κ)
    (guard_i 𝓤 Seen (sem 𝓛 (lent 1)))) $ learn ! (λ so.
    let x : X.Denot = so.1.0 in let at : p ≡ block_ptr pb po = at_block p so.0 in
    rewrite ! 0 (λ (z : Ptr × Option X.Denot). ‵ (claim_shares β R ok z.0 1 z.1 κ))
    (λ i. (at i, so.1.1 i)) refl $
    -- what the reader sees of the value holds for κ too
    fsplit ! $ fpick ! (λ fit. drop ! $
    use1 𝓛 (‵ (hidden_shr R κ x pb e)) (shortens 𝓛 (shared_of R x pb e) (LR.shr_laws x pb e)
    (κ ++ β) κ (⊑_meet κ κ β (Incl-refl κ) bounds.0)) $ move ! (1 ∷ 2 ∷ []) $
    looks ! tt D (opened ℓ R G g 𝓛) (p, (tt, tt)) b o (λ q vs. move ! (1 ∷ []) $
    peeks ! D (Is D) (shows 𝓛 D) (p, (tt, tt)) vs (λ is_so.
    let ev : vs ≡ hand_of (block_ptr pb po) ∷ [] =
    told ℓ R G g p vs is_so ∙ ap (λ (r : Ptr). hand_of r ∷ []) at in
    let cells : List Val → Fml = λ ws. cell_at q D.mir ws b o in
    rewrite ! 1 (λ (ws : List Val). ‵ (cells ws)) ev refl $ first ! $ blocks ! $
    sets_last ! (addr ! (through ! refl (fld ! refl
    (hop ! (look_in ! 1 (sub ! 0 refl (whole !))) (fld ! refl (stop !)))))) refl (tt, tt) $
    exec ! 𝓣.C 𝓣.Λ Ev (tail fn.body) (at_ret Ev Post) $
    sets ! (of_opd ! (get ! refl)) refl (tt, tt) $
    rewrite ! 1 (λ (ws : List Val). ‵ (cells ws)) (sym ev) refl $
    move ! (1 ∷ 0 ∷ 2 ∷ []) $ shuts ! tt D q (p, (tt, tt)) vs b o $
    move ! (0 ∷ 3 ∷ []) $ join ! $ move ! (2 ∷ []) $
    feq_i ! (List Val) (vptr pb e ∷ []) (vptr pb e ∷ []) refl $ fjoin ! $
    use0 𝓛 (raw (fact 𝓤 (ok x))) (fact_i 𝓤 (ok x) (emp 𝓤) fit) $
    use0 𝓛 (raw (fact 𝓤 (Some x ≡ v))) (fact_i 𝓤 (Some x ≡ v) (emp 𝓤) (sym so.1.1)) $ join ! $
    nothing ! $ nothing ! $ fjoin ! $
    returns ! (look_at ! 0 refl) $ free_all ! refl $ keep ! (3 ∷ 0 ∷ 2 ∷ 1 ∷ []) $
    by ! (leaves 𝓛 En hs c y (vptr pb e) (record { ref_ptr = (pb, e); now = x })
    (tt, tt) (tt, tt)))))))))
