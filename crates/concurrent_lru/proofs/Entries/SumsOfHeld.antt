-- The sum of the charges of held entries after a change.
use Rattle.std.proofs.Common.{◌≡◌, ℕ, ◌+◌, Bool, true, false, cond, List, [], ◌∷◌, ◌++◌, map, Option, Some, None, refl, sym, ap, ◌∙◌, arith}
use Rattle.std.specs.declared.cmp.Ordering.TheVariants.{Less, Equal, Greater}
use Rattle.std.specs.List.{sum_by}
use Rattle.std.specs.Ordering.{nat_cmp, is_eq}
use Rattle.std.specs.Cmp.{nat_cmp_total}
use Rattle.std.specs.FinMap.{FinMap, get, insert, remove, entries, values, entries-insert, get-entries, get-insert, get-remove, same_map, nat_cmp-IsAntisymmetric}
use Rattle.std.specs.FinMap.Entries.{find, put, by_order}
use Rattle.std.proofs.lemmas.Option.{none-some}
use Rattle.std.proofs.lemmas.List.Sums.{sum_by-append}
use Rattle.concurrent_lru.proofs.Lists.DistinctEntries.{same, same-refl, same-true}

pub sum_by-cons : {X : Type 0} (f : X → ℕ) (x : X) (xs : List X) → sum_by f (x ∷ xs) ≡ f x + sum_by f xs
sum_by-cons f x xs = let a : sum_by f ((x ∷ []) ++ xs) ≡ sum_by f (x ∷ []) + sum_by f xs = sum_by-append f (x ∷ []) xs in omega (arith, a)

module _ {X : Type 0} (f : X → ℕ) where
  total : List (ℕ × X) → ℕ
  total es = sum_by f (map (λ e. e.1) es)

  total-put : (k : ℕ) (v : X) (es : List (ℕ × X)) → find nat_cmp k es ≡ None → sum_by f (map (λ e. e.1) (put nat_cmp k v es)) ≡ sum_by f (map (λ e. e.1) es) + f v
  total-put k v [] h = refl
  total-put k v (e ∷ es) h =
      elim (nat_cmp k e.0) as (λ o. cond (is_eq o) (Some e.1) (find nat_cmp k es) ≡ None → sum_by f (map (λ e. e.1) (by_order o ((k, v) ∷ e ∷ es) ((e.0, v) ∷ es) (e ∷ put nat_cmp k v es))) ≡ sum_by f (map (λ e. e.1) (e ∷ es)) + f v) [
        | Less ↦ λ _. let a : sum_by f (v ∷ e.1 ∷ map (λ e. e.1) es) ≡ f v + sum_by f (e.1 ∷ map (λ e. e.1) es) = sum_by-cons f v (e.1 ∷ map (λ e. e.1) es) in omega (arith, a)
        | Equal ↦ λ k. absurd (none-some e.1 (sym k))
        | Greater ↦ λ n.
            let a : sum_by f (e.1 ∷ map (λ e. e.1) (put nat_cmp k v es)) ≡ f e.1 + sum_by f (map (λ e. e.1) (put nat_cmp k v es)) = sum_by-cons f e.1 (map (λ e. e.1) (put nat_cmp k v es)) in
            let b : sum_by f (e.1 ∷ map (λ e. e.1) es) ≡ f e.1 + sum_by f (map (λ e. e.1) es) = sum_by-cons f e.1 (map (λ e. e.1) es) in
            let i : sum_by f (map (λ e. e.1) (put nat_cmp k v es)) ≡ sum_by f (map (λ e. e.1) es) + f v = total-put k v es n in
            omega (arith, a, b, i)
      ] h

  pub sum-insert : (m : FinMap nat_cmp X) (k : ℕ) (v : X) → get m k ≡ None → sum_by f (values (insert m k v)) ≡ sum_by f (values m) + f v
  sum-insert m k v h = ap (λ es. sum_by f (map (λ e. e.1) es)) (entries-insert nat_cmp_total m k v) ∙ total-put k v (entries m) (sym (get-entries m k) ∙ h)

module _ {X : Type 0} where
  pub removed_at : (m : FinMap nat_cmp X) (k : ℕ) → get (remove m k) k ≡ None
  removed_at m k = get-remove nat_cmp_total m k k ∙ ap (λ t. cond t None (get m k)) (same-refl k)

  twice : (t : Bool) (v : X) (o : Option X) → cond t (Some v) o ≡ cond t (Some v) (cond t None o)
  twice true v o = refl
  twice false v o = refl

  -- a map is the one without k, and k put back
  pub put_back : (m : FinMap nat_cmp X) (k : ℕ) (v : X) → insert m k v ≡ insert (remove m k) k v
  put_back m k v = same_map nat_cmp_total nat_cmp-IsAntisymmetric _ _ (λ q.
      get-insert nat_cmp_total m k v q ∙ twice (same q k) v (get m q) ∙ ap (cond (same q k) (Some v)) (sym (get-remove nat_cmp_total m k q)) ∙ sym (get-insert nat_cmp_total (remove m k) k v q))

  here : (t : Bool) (v : X) (o : Option X) → (t ≡ true → o ≡ Some v) → o ≡ cond t (Some v) o
  here true v o h = h refl
  here false v o h = refl

  pub insert_again : (m : FinMap nat_cmp X) (k : ℕ) (v : X) → get m k ≡ Some v → m ≡ insert m k v
  insert_again m k v h = same_map nat_cmp_total nat_cmp-IsAntisymmetric _ _ (λ q. here (same q k) v (get m q) (λ t. ap (get m) (same-true q k t) ∙ h) ∙ sym (get-insert nat_cmp_total m k v q))

  pub sum-remove : (f : X → ℕ) (m : FinMap nat_cmp X) (k : ℕ) (v : X) → get m k ≡ Some v → sum_by f (values (remove m k)) + f v ≡ sum_by f (values m)
  sum-remove f m k v h = sym (sum-insert f (remove m k) k v (removed_at m k)) ∙ ap (λ n. sum_by f (values n)) (sym (insert_again m k v h ∙ put_back m k v))

  pub sum-change : (f : X → ℕ) (m : FinMap nat_cmp X) (k : ℕ) (v w : X) → get m k ≡ Some v → sum_by f (values (insert m k w)) + f v ≡ sum_by f (values m) + f w
  sum-change f m k v w h =
      let a : sum_by f (values (insert m k w)) ≡ sum_by f (values (remove m k)) + f w = ap (λ n. sum_by f (values n)) (put_back m k w) ∙ sum-insert f (remove m k) k w (removed_at m k) in
      let b : sum_by f (values (remove m k)) + f v ≡ sum_by f (values m) = sum-remove f m k v h in
      omega (arith, a, b)
