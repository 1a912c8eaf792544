-- `of` makes the struct of its parameters. Assumes `Logic`.
use Rattle.std.proofs.Common.{◌≡◌, List, [], ◌∷◌, ◌++◌, refl}
use mathlib.Core.Bool.{Bool, true, false, ◌&&◌}
use lib.Dec.{T}
use seplogic.Ra.Ura.{Ura}
use types.Logic.{Logic}
use denote.Param.{layout}
use mir.Syntax.{a_type, given as dict_at}
use mir.Val.{Val, vstruct, of_list, has_ty, WT}
use mir.MapTy.{inst_fn}
use base.Logic.{SProp, emp}
use base.Fml.{ftrue, fsep, feq}
use prog.Wp.{WpFn}
use types.Kit.{‵, raw, ◌⊛◌, ◌$◌, ◌∵◌, !, qed, by, move, keep, split, fsplit, fjoin, fpack, regoal, prop, use0, feq_i, Goal, Seq, Item}
use types.Run.{of_opd, no_more, and_then, returns, enter}
use types.ByLocal.{alloc_all, pass_all, free_all, look_at, get, sets}
use types.Part.{agg}
use contract.Monad.{fact, fact_i}
use contract.Running.{tables}
use denote.Exit.{no, yes}
use denote.RattleType.{RattleType, owns, Valss}
use denote.Param.{param, layouts}
use denote.Param.Laws.{Laws, param_laws}
use denote.Signature.{types_at, plain}
use denote.Steps.{nothing, heard}
use denote.Triple.Walked.{Stays, stay_dropped, walk_of}
use denote.Triple.Entry.{alive}
use Rattle.std.proofs.alloc.Calls.{Goes-blank, handle_tells}
use Rattle.std.proofs.raw_atomic.Walks.{proved_at, leaves}
use Rattle.concurrent_lru.proofs.node_table.links.Order.TheLaws as order_laws
use Rattle.concurrent_lru.proofs.work.Work.TheLaws as work_laws
use Rattle.concurrent_lru.specs.SlotTable.{IsWhole}
use Rattle.concurrent_lru.specs.contracts.node_table.links.Order as order
use Rattle.concurrent_lru.specs.contracts.work.Work as work
use Rattle.concurrent_lru.specs.contracts.node_table.Nodes as nodes
use Rattle.concurrent_lru.specs.contracts.node_table.Nodes.TheInside as inside
use Rattle.concurrent_lru.specs.contracts.node_table.Nodes.of.{ended, clauses}
use Rattle.concurrent_lru.specs.contracts.node_table.Nodes.of.Key.{name as #self}
use Rattle.concurrent_lru.proofs.node_table.Nodes.of.Statement.{statement}
use Rattle.concurrent_lru.proofs.node_table.Nodes.of.Code as code

-- What a machine value of a type meets.
abbrev Good : RattleType → Val → Type 0
Good R v = T (has_ty (layout R) v) × WT v

-- A struct of two fields has its type where each field has.
all_two : (p q : Bool) → T p → T q → T (p && (q && true))
all_two true true a b = tt
all_two true false a b = absurd b
all_two false q a b = absurd a

module _ {M : Type 1} {𝓤 : Ura M} {𝓛 : Logic 𝓤} {K : Type 0} {Γ : List (Item 𝓤)} {G : Goal 𝓤 𝓛.H} where
  -- What is owned is one machine value, of its type.
  tells : K → (R : RattleType) → Laws R → (x : R.Denot) (vs : List Val) → ((v : Val) → vs ≡ v ∷ [] → Good R v → Seq K 𝓛 (‵ (R.own_val x (v ∷ [])) ∷ Γ) G) → Seq K 𝓛 (‵ (R.own_val x vs) ∷ Γ) G
  tells t R L = handle_tells (record { row = R; laws = L; g = record { dealloc_token = λ a τ p. ftrue }; d = dict_at 0; drops = dict_at 0 }) t

pub of_spec : {M : Type 1} → statement M
of_spec 𝓤 𝓛 𝓜 𝓡 wired K V L N =
    let H = 𝓛.H in let 𝓣 = tables 𝓤 H 𝓜 𝓡 𝓡.env in let X : RattleType = param 0 K in let Y : RattleType = param 1 V in
    let En = ended K V in let c = clauses K V 𝓛 𝓜.mem 𝓡.returns in let fn = inst_fn (layouts (a_type ∷ a_type ∷ []) (K, (V, tt))) code.function in
    let S : RattleType = order.the_row X Y in let W : RattleType = work.the_row in
    let hs : Stays En.signature.params En.kept = (stay_dropped (plain (λ _. S)) no, (stay_dropped (plain (λ _. W)) yes, tt)) in
    proved_at 𝓛 En hs c 𝓜 𝓡 (Goes-blank 𝓛 2 (plain (λ _. S)) no (λ κs x f. tt), (Goes-blank 𝓛 2 (plain (λ _. W)) yes (λ κs x f. tt), tt))
    (#self (layouts (a_type ∷ a_type ∷ []) (K, (V, tt)))) fn (code.unfolded 𝓤 H 𝓜 𝓡 wired (K, (V, tt))) (λ z are.
    let κs = z.0.0 in let a = z.0.3 in let vss = z.0.4 in let Post : Val → SProp 𝓤 = (walk_of 𝓛 En hs c).post z in
    let laws : Laws S = order_laws.the_row_laws X Y (param_laws 0 K L) (param_laws 1 V N) in
    qed 𝓛 ((raw (alive 𝓛 En.signature κs z.0.1) ⊛ ‵ (owns (types_at En.signature.params κs) a vss)) ∷ raw (fact 𝓤 _) ∷ raw (fact 𝓤 _) ∷ raw (fact 𝓤 (IsWhole a.0)) ∷ []) ∵
    move ! (3 ∷ []) $ heard ! _ (λ ok. keep ! (0 ∷ []) $ split ! $ move ! (1 ∷ []) $
    fsplit ! $ tells ! S laws a.0 vss.0 (λ u e t. move ! (1 ∷ []) $
    fsplit ! $ tells ! W work_laws.the_row_laws a.1.0 vss.1.0 (λ u1 e1 t1.
    let us : List Val = u ∷ u1 ∷ [] in let v : Val = vstruct (of_list us) in
    let F : RattleType = inside.the_row X Y in let Rs : List RattleType = S ∷ W ∷ [] in
    let whole : F.Denot = record { order = a.0; work = a.1.0 } in let r : (nodes.the_row X Y).Denot = nodes.the_view X Y whole in
    regoal ! (λ (ws : List Val). prop (WpFn 𝓤 H 𝓣.C 𝓣.Λ fn ws Post)) (λ i. e i ++ (e1 i ++ [])) refl $
    enter ! 𝓣.C 𝓣.Λ fn us Post $ alloc_all ! (λ l. pass_all ! refl (t, (t1, tt)) $
    sets ! (of_opd ! (get ! refl)) refl t $
    sets ! (agg ! (and_then ! (get ! refl) (and_then ! (get ! refl) (no_more !)))) refl
    (all_two (has_ty (layout S) u) (has_ty (layout W) u1) t.0 t1.0, (t.1, (t1.1, tt))) $
    returns ! (look_at ! 0 refl) $ free_all ! refl $
    fjoin ! $ move ! (1 ∷ 0 ∷ []) $ fjoin ! $
    feq_i ! (List Val) (v ∷ []) (v ∷ []) refl $ fjoin ! $
    fpack ! (Valss Rs) (λ vs. fsep (feq (List Val) (v ∷ []) (vstruct (of_list (vs.0 ++ (vs.1.0 ++ []))) ∷ [])) (owns Rs (a.0, (a.1.0, tt)) vs)) (u ∷ [], (u1 ∷ [], tt)) $
    nothing ! $ move ! (1 ∷ 0 ∷ []) $ fjoin ! $ nothing ! $ move ! (1 ∷ 0 ∷ []) $ fjoin ! $
    fpack ! ((x : F.Denot) × ((nodes.the_view X Y x ≡ r) × nodes.the_invariant X Y x)) (λ x. fsep (F.own_val x.0 (v ∷ [])) ftrue) (whole, (refl, ok)) $
    use0 𝓛 (raw (fact 𝓤 (r ≡ r))) (fact_i 𝓤 (r ≡ r) (emp 𝓤) refl) $
    nothing ! $ nothing ! $ fjoin ! $ nothing ! $ fjoin ! $
    keep ! (3 ∷ 0 ∷ 2 ∷ 1 ∷ []) $ by ! (leaves 𝓛 En hs c z v r (((tt, (tt, (tt, (tt, tt)))), tt), (tt, tt)) (tt, (tt, tt))))))))
