-- The weight of a key only grows from its last use on, so the weight at the end decides wherever
-- the capacity stays.
use Rattle.std.proofs.Common.{◌≡◌, ℕ, ◌+◌, ◌≤◌, Bool, true, false, cond, not, List, [], ◌∷◌, ◌++◌, map, refl, sym, ap, ◌∙◌, subst, arith}
use Rattle.std.specs.List.{AllByRecursion, sum_by, list_any}
use Rattle.std.specs.Cmp.{IsEquivalence}
use Rattle.std.proofs.Math.Bool.{or-false}
use Rattle.std.proofs.lemmas.List.{append-nil, append_assoc}
use Rattle.std.proofs.lemmas.List.Sums.{sum_by-append, sum_by-cons}
use Rattle.concurrent_lru.specs.Request as ask
use Rattle.concurrent_lru.specs.Reply as say
use Rattle.concurrent_lru.specs.Request.{Request}
use Rattle.concurrent_lru.specs.Runs.{Outcome, accepted}
use Rattle.concurrent_lru.specs.Uses.{IsPlain, uses, last_uses, charge_in}
use Rattle.concurrent_lru.specs.Removals.{HaveNoRemoval, remaining_uses}
use Rattle.concurrent_lru.specs.Weights.{IsPlainWithChanges, end_from, weight, capacity_after}
use Rattle.concurrent_lru.specs.WholeRuns.{PlainHasNoChange, LightKeysFitted, OldChangesAreForgotten, ChangesAloneAreForgotten}
use Rattle.concurrent_lru.proofs.Runs.ChargeOfKey.{charge_agrees}
use Rattle.concurrent_lru.proofs.Runs.Moments.{uses-append, fitted_now, none_parts}
use Rattle.concurrent_lru.proofs.Runs.RemainingUses.{none_since}
use Rattle.concurrent_lru.proofs.Runs.RoomOfRemovals.{weight_remaining, weight_since}
use Rattle.concurrent_lru.proofs.Runs.LongestEnds.{AgreesOnEqual, AreDistinctKeys, others, others_sum, last_uses-push, last_uses-apart}

module _ {K : Type 0} (E : K → K → Bool) (price : K → ℕ) (eq : IsEquivalence E) (p : AgreesOnEqual E price) where
  -- the end from a key after the use of another
  end_grows : (q k : K) (ks : List K) → AreDistinctKeys E ks → E q k ≡ false → sum_by price (end_from E q ks) ≤ sum_by price (end_from E q (others E k ks ++ k ∷ []))
  end_grows q k [] d n = omega arith
  end_grows q k (l ∷ ks) d n = elim (E q l) as (λ t. E q l ≡ t → sum_by price (cond t (l ∷ ks) (end_from E q ks)) ≤ sum_by price (end_from E q (others E k (l ∷ ks) ++ k ∷ []))) [
    | true ↦ λ t.
        let far : E l k ≡ false = sym (eq.congr q l k t) ∙ n in
        let same : end_from E q (others E k (l ∷ ks) ++ k ∷ []) ≡ l ∷ (others E k ks ++ k ∷ []) =
        ap (λ s. end_from E q (cond (not s) (l ∷ others E k ks) (others E k ks) ++ k ∷ [])) far ∙ ap (λ s. cond s (l ∷ (others E k ks ++ k ∷ [])) (end_from E q (others E k ks ++ k ∷ []))) t in
        let most : sum_by price ks ≤ sum_by price (others E k ks) + price k = others_sum E price eq p k ks d.1 in
        let a : sum_by price (l ∷ ks) ≡ price l + sum_by price ks = sum_by-cons price l ks in
        let b : sum_by price (l ∷ (others E k ks ++ k ∷ [])) ≡ price l + sum_by price (others E k ks ++ k ∷ []) = sum_by-cons price l (others E k ks ++ k ∷ []) in
        let c : sum_by price (others E k ks ++ k ∷ []) ≡ sum_by price (others E k ks) + sum_by price (k ∷ []) = sum_by-append price (others E k ks) (k ∷ []) in
        let o : sum_by price (k ∷ []) ≡ price k = omega arith in
        subst (λ zs. sum_by price (l ∷ ks) ≤ sum_by price zs) (sym same) (omega (arith, most, a, b, c, o))
    | false ↦ λ t.
        let r = end_grows q k ks d.1 n in
        elim (E l k) as (λ s. sum_by price (end_from E q ks) ≤ sum_by price (end_from E q (cond (not s) (l ∷ others E k ks) (others E k ks) ++ k ∷ []))) [
          | true ↦ r
          | false ↦ subst (λ s. sum_by price (end_from E q ks) ≤ sum_by price (cond s (l ∷ (others E k ks ++ k ∷ [])) (end_from E q (others E k ks ++ k ∷ [])))) (sym t) r
        ]
  ] refl

  -- a key weighs no less after uses of others
  pub weight_grows : (q : K) (us vs : List K) → list_any (E q) vs ≡ false → weight E price us q ≤ weight E price (us ++ vs) q
  weight_grows q us [] n = subst (λ ws. weight E price us q ≤ weight E price ws q) (sym (append-nil us)) (omega arith)
  weight_grows q us (v ∷ vs) n =
      let parts = none_parts (E q) (v ∷ []) vs n in
      let one : weight E price us q ≤ weight E price (us ++ v ∷ []) q =
      subst (λ ks. sum_by price (end_from E q (last_uses E us)) ≤ sum_by price (end_from E q ks)) (sym (last_uses-push E us v)) (end_grows q v (last_uses E us) (last_uses-apart E us) (sym (or-false (E q v)) ∙ parts.0)) in
      let rest : weight E price (us ++ v ∷ []) q ≤ weight E price ((us ++ v ∷ []) ++ vs) q = weight_grows q (us ++ v ∷ []) vs parts.1 in
      let same : weight E price ((us ++ v ∷ []) ++ vs) q ≡ weight E price (us ++ v ∷ vs) q = ap (λ ws. weight E price ws q) (append_assoc us (v ∷ []) vs) in
      omega (arith, one, rest, same)

pub light_keys_fitted : (K V : Type 0) (E : K → K → Bool) → IsEquivalence E → LightKeysFitted K V E
light_keys_fitted K V E eq begun capacity es k light before after p n =
    let price = charge_in E begun in
    let grows : weight E price (uses before) k ≤ weight E price (uses before ++ uses after) k = weight_grows E price eq (charge_agrees E eq begun) k (uses before) (uses after) n in
    let same : weight E price (uses es) k ≡ weight E price (uses before ++ uses after) k = ap (λ us. weight E price us k) (ap uses p ∙ uses-append before after) in
    let fits : weight E price (uses es) k ≤ capacity_after capacity before = light before after p n in
    let less : weight E price (remaining_uses E before) k ≤ weight E price (uses before) k = weight_remaining E price eq k before in
    omega (arith, grows, same, fits, less)

pub old_changes_are_forgotten : (K V : Type 0) (E : K → K → Bool) → IsEquivalence E → OldChangesAreForgotten K V E
old_changes_are_forgotten K V E eq begun capacity c es k steady none = (
  λ h. subst (λ n. n ≤ c) (weight_since E (charge_in E begun) eq k es none) (subst (λ n. weight E (charge_in E begun) (remaining_uses E es) k ≤ n) (steady es [] (sym (append-nil es)) refl) (fitted_now E (charge_in E begun) capacity es k h)),
  λ h. light_keys_fitted K V E eq begun capacity es k (λ before after p n. subst (λ m. weight E (charge_in E begun) (uses es) k ≤ m) (sym (steady before after p n)) h),
)

pub changes_alone_are_forgotten : (K V : Type 0) (E : K → K → Bool) → IsEquivalence E → ChangesAloneAreForgotten K V E
changes_alone_are_forgotten K V E eq begun capacity c es k steady none = old_changes_are_forgotten K V E eq begun capacity c es k steady (none_since E es none k)

module _ {K V : Type 0} where
  -- the request sets no capacity
  abbrev SetsNone : Request K V × Outcome K V → Type 0
  SetsNone (ask.set_capacity c, o) = ⊥
  SetsNone (_, o) = Unit {0}

  plain_changes : (es : List (Request K V × Outcome K V)) → IsPlain es → IsPlainWithChanges es × AllByRecursion SetsNone es
  plain_changes [] h = (tt, tt)
  plain_changes ((ask.begin k c, accepted (say.make s) a) ∷ (ask.ready t v, accepted say.done b) ∷ (ask.release u, accepted say.done d) ∷ es) h = let r = plain_changes es h.2 in ((h.0, h.1, r.0), (tt, (tt, (tt, r.1))))
  plain_changes ((ask.begin k c, accepted (say.hit s v) a) ∷ (ask.release u, accepted say.done b) ∷ es) h = let r = plain_changes es h.1 in ((h.0, r.0), (tt, (tt, r.1)))
  plain_changes ((ask.get k, accepted (say.hit s v) a) ∷ (ask.release u, accepted say.done b) ∷ es) h = let r = plain_changes es h.1 in ((h.0, r.0), (tt, (tt, r.1)))
  plain_changes ((ask.get k, accepted say.missed a) ∷ es) h = let r = plain_changes es h in (r.0, (tt, r.1))
  plain_changes ((ask.read k, accepted (say.read s v) a) ∷ es) h = let r = plain_changes es h in (r.0, (tt, r.1))
  plain_changes ((ask.read k, accepted say.missed a) ∷ es) h = let r = plain_changes es h in (r.0, (tt, r.1))
  plain_changes (e ∷ es) h = absurd h

  none_set : (c : ℕ) (a b : List (Request K V × Outcome K V)) → AllByRecursion SetsNone (a ++ b) → capacity_after c a ≡ c
  none_set c [] b h = refl
  none_set c ((ask.set_capacity n, o) ∷ a) b h = absurd h.0
  none_set c (_ ∷ a) b h = none_set c a b h.1

  plain_removes_none : (es : List (Request K V × Outcome K V)) → IsPlain es → HaveNoRemoval (map (λ e. e.0) es)
  plain_removes_none [] h = tt
  plain_removes_none ((ask.begin k c, accepted (say.make s) a) ∷ (ask.ready t v, accepted say.done b) ∷ (ask.release u, accepted say.done d) ∷ es) h = plain_removes_none es h.2
  plain_removes_none ((ask.begin k c, accepted (say.hit s v) a) ∷ (ask.release u, accepted say.done b) ∷ es) h = plain_removes_none es h.1
  plain_removes_none ((ask.get k, accepted (say.hit s v) a) ∷ (ask.release u, accepted say.done b) ∷ es) h = plain_removes_none es h.1
  plain_removes_none ((ask.get k, accepted say.missed a) ∷ es) h = plain_removes_none es h
  plain_removes_none ((ask.read k, accepted (say.read s v) a) ∷ es) h = plain_removes_none es h
  plain_removes_none ((ask.read k, accepted say.missed a) ∷ es) h = plain_removes_none es h
  plain_removes_none (e ∷ es) h = absurd h

pub plain_has_no_change : (K V : Type 0) → PlainHasNoChange K V
plain_has_no_change K V c es h = let r = plain_changes es h in (r.0, λ a b p. none_set c a b (subst (AllByRecursion SetsNone) p r.1), plain_removes_none es h)
