-- What removals make room for: a key weighs no more among the uses that remain than among all, and
-- the same where nothing was removed since its last use.
use Rattle.std.proofs.Common.{◌≡◌, ℕ, ◌+◌, ◌≤◌, ◌⊎◌, inl, inr, Bool, true, false, cond, not, List, [], ◌∷◌, ◌++◌, refl, sym, ap, ◌∙◌, subst, arith, ◌||◌}
use Rattle.std.specs.List.{filter, list_any, sum_by}
use Rattle.std.specs.Cmp.{IsEquivalence}
use Rattle.std.proofs.lemmas.Bool.{true≢false}
use Rattle.std.proofs.lemmas.List.Folds.{list_any-append}
use Rattle.std.proofs.lemmas.List.Sums.{sum_by-cons}
use Rattle.std.proofs.lemmas.Map.Steps.{list_any_congr}
use Rattle.concurrent_lru.specs.Request.{Request}
use Rattle.concurrent_lru.specs.Runs.{Outcome}
use Rattle.concurrent_lru.specs.Uses.{uses, last_uses}
use Rattle.concurrent_lru.specs.Removals.{is_removed_by, remaining_uses}
use Rattle.concurrent_lru.specs.Weights.{end_from, weight, NoneRemovedSince}
use Rattle.concurrent_lru.proofs.Runs.LongestEnds.{others}
use Rattle.concurrent_lru.proofs.Runs.Moments.{uses-append}
use Rattle.concurrent_lru.proofs.Runs.RemainingUses.{all_used_first, any_remaining, any_staying, removed_same}
use Rattle.concurrent_lru.proofs.Runs.RemovedKeys.{last_uses-others}
use Rattle.concurrent_lru.proofs.Runs.WeightOfKey.{any_right, end_sum}

module _ {K : Type 0} where
  -- the first list is the second one, but for some keys that are left out
  abbrev IsWithin : List K → List K → Type 0
  IsWithin xs [] = xs ≡ []
  IsWithin xs (y ∷ ys) = IsWithin xs ys ⊎ ((zs : List K) × (xs ≡ y ∷ zs) × IsWithin zs ys)

  within_with : (x : K) (xs ys : List K) → IsWithin xs ys → IsWithin (x ∷ xs) (x ∷ ys)
  within_with x xs ys h = inr (xs, refl, h)

  within_filter : (p : K → Bool) (xs : List K) → IsWithin (filter p xs) xs
  within_filter p [] = refl
  within_filter p (x ∷ xs) = let r = within_filter p xs in elim (p x) as (λ t. IsWithin (cond t (x ∷ filter p xs) (filter p xs)) (x ∷ xs)) [ true ↦ within_with x (filter p xs) xs r | false ↦ inl r ]

  within_sum : (price : K → ℕ) (xs ys : List K) → IsWithin xs ys → sum_by price xs ≤ sum_by price ys
  within_sum price xs [] h = let z : sum_by price xs ≡ 0 = ap (sum_by price) h in omega (arith, z)
  within_sum price xs (y ∷ ys) h =
      let b : sum_by price (y ∷ ys) ≡ price y + sum_by price ys = sum_by-cons price y ys in
      elim h [
        | inl h ↦ let r : sum_by price xs ≤ sum_by price ys = within_sum price xs ys h in omega (arith, b, r)
        | inr h ↦
            let r : sum_by price h.0 ≤ sum_by price ys = within_sum price h.0 ys h.2 in
            let a : sum_by price (y ∷ h.0) ≡ price y + sum_by price h.0 = sum_by-cons price y h.0 in
            let s : sum_by price xs ≡ sum_by price (y ∷ h.0) = ap (sum_by price) h.1 in
            omega (arith, a, b, r, s)
      ]

module _ {K : Type 0} (E : K → K → Bool) (price : K → ℕ) (eq : IsEquivalence E) where
  -- the ends from a key
  within_end : (q : K) (xs ys : List K) → IsWithin xs ys → sum_by price (end_from E q xs) ≤ sum_by price (end_from E q ys)
  within_end q xs [] h = let z : sum_by price (end_from E q xs) ≡ 0 = ap (λ zs. sum_by price (end_from E q zs)) h in omega (arith, z)
  within_end q xs (y ∷ ys) h = elim h [
    | inl h ↦
        let r : sum_by price (end_from E q xs) ≤ sum_by price (end_from E q ys) = within_end q xs ys h in
        let most : sum_by price (end_from E q ys) ≤ sum_by price ys = end_sum E price eq q ys in
        let all : sum_by price (y ∷ ys) ≡ price y + sum_by price ys = sum_by-cons price y ys in
        elim (E q y) as (λ t. sum_by price (end_from E q xs) ≤ sum_by price (cond t (y ∷ ys) (end_from E q ys))) [ true ↦ omega (arith, r, most, all) | false ↦ r ]
    | inr h ↦
        subst (λ zs. sum_by price (end_from E q zs) ≤ sum_by price (end_from E q (y ∷ ys))) (sym h.1)
        (elim (E q y) as (λ t. sum_by price (cond t (y ∷ h.0) (end_from E q h.0)) ≤ sum_by price (cond t (y ∷ ys) (end_from E q ys))) [
          | true ↦ within_sum price (y ∷ h.0) (y ∷ ys) (within_with y h.0 ys h.2)
          | false ↦ within_end q h.0 ys h.2
        ])
  ]

  -- a key weighs no more without another one
  pub weight_without : (q k : K) (us : List K) → weight E price (others E k us) q ≤ weight E price us q
  weight_without q k us =
      subst (λ ks. sum_by price (end_from E q ks) ≤ sum_by price (end_from E q (last_uses E us))) (sym (last_uses-others E eq k us)) (within_end q (others E k (last_uses E us)) (last_uses E us) (within_filter (λ l. not (E l k)) (last_uses E us)))

  module _ (gone : K → Bool) (same : (k l : K) → E k l ≡ true → gone k ≡ gone l) where
    -- Uses of keys, some of which go, before others: what remains of the last uses is within them.
    within_more : (rest us a : List K) → IsWithin (last_uses E rest) (last_uses E us) → ((k : K) → gone k ≡ false → list_any (E k) rest ≡ list_any (E k) us)
        → IsWithin (last_uses E (filter (λ k. not (gone k)) a ++ rest)) (last_uses E (a ++ us))
    within_more rest us [] h stays = h
    within_more rest us (k ∷ a) h stays =
        let r = within_more rest us a h stays in
        let stay = filter (λ l. not (gone l)) a in
        elim (gone k) as (λ t. gone k ≡ t → IsWithin (last_uses E (cond (not t) (k ∷ stay) stay ++ rest)) (cond (list_any (E k) (a ++ us)) (last_uses E (a ++ us)) (k ∷ last_uses E (a ++ us)))) [
          | true ↦ λ t. elim (list_any (E k) (a ++ us)) as (λ s. IsWithin (last_uses E (stay ++ rest)) (cond s (last_uses E (a ++ us)) (k ∷ last_uses E (a ++ us)))) [ true ↦ r | false ↦ inl r ]
          | false ↦ λ t.
              let both : list_any (E k) (stay ++ rest) ≡ list_any (E k) (a ++ us) =
              list_any-append (E k) stay rest ∙ ap (λ s. s || list_any (E k) rest) (any_staying E gone same k t a) ∙ ap (λ s. list_any (E k) a || s) (stays k t) ∙ sym (list_any-append (E k) a us) in
              subst (λ s. IsWithin (cond s (last_uses E (stay ++ rest)) (k ∷ last_uses E (stay ++ rest))) (cond (list_any (E k) (a ++ us)) (last_uses E (a ++ us)) (k ∷ last_uses E (a ++ us)))) (sym both)
              (elim (list_any (E k) (a ++ us)) as (λ s. IsWithin (cond s (last_uses E (stay ++ rest)) (k ∷ last_uses E (stay ++ rest))) (cond s (last_uses E (a ++ us)) (k ∷ last_uses E (a ++ us)))) [
                | true ↦ r
                | false ↦ within_with k (last_uses E (stay ++ rest)) (last_uses E (a ++ us)) r
              ])
        ] refl

  -- an earlier use of whatever key changes no end
  end_later : (q : K) (a us : List K) → list_any (E q) us ≡ true → end_from E q (last_uses E (a ++ us)) ≡ end_from E q (last_uses E us)
  end_later q [] us h = refl
  end_later q (k ∷ a) us h =
      elim (list_any (E k) (a ++ us)) as (λ s. list_any (E k) (a ++ us) ≡ s → end_from E q (cond s (last_uses E (a ++ us)) (k ∷ last_uses E (a ++ us))) ≡ end_from E q (last_uses E us)) [
        | true ↦ λ s. end_later q a us h
        | false ↦ λ s. elim (E q k) as (λ t. E q k ≡ t → cond t (k ∷ last_uses E (a ++ us)) (end_from E q (last_uses E (a ++ us))) ≡ end_from E q (last_uses E us)) [
          | true ↦ λ t. absurd (true≢false (sym (any_right (E q) a us h) ∙ list_any_congr eq q k (a ++ us) t ∙ s))
          | false ↦ λ t. end_later q a us h
        ] refl
      ] refl

module _ {K V : Type 0} (E : K → K → Bool) (price : K → ℕ) (eq : IsEquivalence E) where
  remaining_within : (es : List (Request K V × Outcome K V)) → IsWithin (last_uses E (remaining_uses E es)) (last_uses E (uses es))
  remaining_within [] = refl
  remaining_within (e ∷ es) =
      subst (λ us. IsWithin (last_uses E (remaining_uses E (e ∷ es))) (last_uses E us)) (sym (uses-append (e ∷ []) es))
      (within_more E price eq (λ k. is_removed_by E k es) (λ k l s. removed_same E eq k l s es) (remaining_uses E es) (uses es) (uses (e ∷ [])) (remaining_within es) (λ k. any_remaining E eq k es))

  -- a key weighs no more among the uses that remain than among all
  pub weight_remaining : (q : K) (es : List (Request K V × Outcome K V)) → weight E price (remaining_uses E es) q ≤ weight E price (uses es) q
  weight_remaining q es = within_end E price eq q (last_uses E (remaining_uses E es)) (last_uses E (uses es)) (remaining_within es)

  later_since : (q : K) (e : Request K V × Outcome K V) (es : List (Request K V × Outcome K V)) → NoneRemovedSince E (e ∷ es) q → NoneRemovedSince E es q
  later_since q e es h before after p n = h (e ∷ before) after (ap (λ zs. e ∷ zs) p) n

  -- where nothing was removed since its last use, a key remains
  remains_since : (q : K) (es : List (Request K V × Outcome K V)) → NoneRemovedSince E es q → list_any (E q) (uses es) ≡ true → list_any (E q) (remaining_uses E es) ≡ true
  remains_since q [] h u = u
  remains_since q (e ∷ es) h u = elim (list_any (E q) (uses es)) as (λ t. list_any (E q) (uses es) ≡ t → list_any (E q) (remaining_uses E (e ∷ es)) ≡ true) [
    | true ↦ λ t. any_right (E q) (filter (λ k. not (is_removed_by E k es)) (uses (e ∷ []))) (remaining_uses E es) (remains_since q es (later_since q e es h) t)
    | false ↦ λ t. ap (list_any (E q)) (all_used_first E e es (h (e ∷ []) es refl t)) ∙ u
  ] refl

  end_since : (q : K) (es : List (Request K V × Outcome K V)) → NoneRemovedSince E es q → end_from E q (last_uses E (remaining_uses E es)) ≡ end_from E q (last_uses E (uses es))
  end_since q [] h = refl
  end_since q (e ∷ es) h = elim (list_any (E q) (uses es)) as (λ t. list_any (E q) (uses es) ≡ t → end_from E q (last_uses E (remaining_uses E (e ∷ es))) ≡ end_from E q (last_uses E (uses (e ∷ es)))) [
    | true ↦ λ t.
        let later = later_since q e es h in
        end_later E price eq q (filter (λ k. not (is_removed_by E k es)) (uses (e ∷ []))) (remaining_uses E es) (remains_since q es later t)
        ∙ end_since q es later
        ∙ sym (ap (λ us. end_from E q (last_uses E us)) (uses-append (e ∷ []) es) ∙ end_later E price eq q (uses (e ∷ [])) (uses es) t)
    | false ↦ λ t. ap (λ us. end_from E q (last_uses E us)) (all_used_first E e es (h (e ∷ []) es refl t))
  ] refl

  -- and weighs the same among all uses
  pub weight_since : (q : K) (es : List (Request K V × Outcome K V)) → NoneRemovedSince E es q → weight E price (remaining_uses E es) q ≡ weight E price (uses es) q
  weight_since q es h = ap (sum_by price) (end_since q es h)
