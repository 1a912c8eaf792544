-- `by_key` makes a value of no bytes, whose ghost field is the key that what the reference shows
-- stands for. Assumes `Logic`.
use Rattle.std.proofs.Common.{◌≡◌, List, [], ◌∷◌, ◌++◌, refl, sym, subst}
use mir.Syntax.{a_type, dcons, dnil}
use mir.Val.{Val, vptr, vstruct, vcons, vnil}
use mir.MapTy.{inst_fn}
use base.Logic.{SProp, emp, ent, id⊢}
use base.Fml.{Fml}
use prog.Wp.{WpFn}
use types.Kit.{‵, raw, ◌⊛◌, ◌$◌, ◌∵◌, !, qed, keep, split, fjoin, use0, suffices, by}
use types.Run.{no_more, and_then, returns, enter}
use types.Part.{agg}
use types.ByLocal.{alloc_all, pass_all, free_all, look_at, get, sets}
use contract.Monad.{fact, fact_i}
use contract.Running.{tables}
use denote.Builtin.{RefOf}
use denote.Exit.{yes}
use denote.Param.{param, bounded}
use denote.RattleType.{owns}
use denote.Shadow.{makes_shadow}
use denote.Signature.{types_at, type_at, plain}
use denote.Steps.{nothing}
use denote.Triple.Entry.{alive}
use denote.Triple.Walked.{Stays, stay_dropped, walk_of, Goes-dropped}
use Rattle.std.proofs.raw_atomic.Walks.{proved_at, leaves}
use Rattle.concurrent_lru.specs.contracts.shown.Shown.by_key.{ended, clauses}
use Rattle.concurrent_lru.specs.contracts.shown.Shown.by_key.Key.{name as #self}
use Rattle.concurrent_lru.proofs.shown.Shown.by_key.Statement.{statement}
use Rattle.concurrent_lru.proofs.shown.Shown.by_key.Code as code

pub by_key_spec : {M : Type 1} → statement M
by_key_spec 𝓤 𝓛 𝓜 𝓡 wired T Q LT LQ copy key key-d clone clone-d hash hash-d eq eq-d peq peq-d _ _ _ _ _ =
    let H = 𝓛.H in let 𝓣 = tables 𝓤 H 𝓜 𝓡 𝓡.env in
    let En = ended T Q key key-d clone clone-d hash hash-d eq eq-d peq peq-d in let c = clauses T Q key key-d clone clone-d hash hash-d eq eq-d peq peq-d 𝓛 𝓜.mem 𝓡.returns in
    let inst = bounded (a_type ∷ a_type ∷ []) (T, (Q, tt)) (dcons key-d (dcons clone-d (dcons hash-d (dcons eq-d (dcons peq-d dnil))))) in let fn = inst_fn inst code.function in
    let self = RefOf (0 ∷ []) tt (plain (λ _. param 1 Q)) (λ _. tt) in
    let hs : Stays En.signature.params En.kept = (stay_dropped self yes, tt) in
    proved_at 𝓛 En hs c 𝓜 𝓡 (Goes-dropped 𝓛 3 self yes (λ κs x f. refl), tt)
    (#self inst) fn (code.unfolded 𝓤 H 𝓜 𝓡 wired (T, (Q, tt)) key-d clone-d hash-d eq-d peq-d) (λ z are.
    let κs = z.0.0 in let Post : Val → SProp 𝓤 = (walk_of 𝓛 En hs c).post z in
    let Run : List Val → SProp 𝓤 = λ ws. WpFn 𝓤 H 𝓣.C 𝓣.Λ fn ws Post in
    let p = z.0.3.0.ref_ptr in let us : List Val = vptr p.0 p.1 ∷ [] in
    let v : Val = vstruct (vcons (vstruct vnil) vnil) in
    let r : denote.Triple.Entry.Res En.signature κs =
    record { mark = record {}; value = key.owned z.0.3.0.now } in
    let O : Fml = (type_at En.signature.result κs).own_val r (v ∷ []) in
    qed 𝓛 ((raw (alive 𝓛 En.signature κs z.0.1)
    ⊛ ‵ (owns (types_at En.signature.params κs) z.0.3 z.0.4))
    ∷ raw ((c κs z.0.3).requires z.1) ∷ []) ∵ split ! $ keep ! (0 ∷ []) $
    suffices ! (Run us) (subst (λ (ws : List Val). ent 𝓤 (Run us) (Run ws))
    (sym (λ i. are.0.0 i ++ [])) (id⊢ 𝓤 (Run us))) $
    enter ! 𝓣.C 𝓣.Λ fn us Post $ alloc_all ! (λ l. pass_all ! refl ((tt, tt), tt) $
    sets ! (agg ! (no_more !)) refl (tt, tt) $
    sets ! (agg ! (and_then ! (get ! refl) (no_more !))) refl (tt, (tt, tt)) $
    returns ! (look_at ! 0 refl) $ free_all ! refl $
    use0 𝓛 (‵ O) (makes_shadow 𝓛 O ((λ vss. (tt, ((λ uss. (tt, tt)), tt))), tt)
    (((vstruct vnil ∷ [], tt), (refl, ((tt, (refl, tt)), tt))), tt)) $
    use0 𝓛 (raw (fact 𝓤 (r.value ≡ r.value))) (fact_i 𝓤 (r.value ≡ r.value) (emp 𝓤) refl) $
    nothing ! $ nothing ! $ fjoin ! $ keep ! (3 ∷ 0 ∷ 2 ∷ 1 ∷ []) $
    by ! (leaves 𝓛 En hs c z v r (tt, tt) (tt, tt))))
