-- Weights: the longest end that fits holds the keys that weigh at most the capacity, and no others.
use Rattle.std.proofs.Common.{◌≡◌, ℕ, ◌+◌, ◌<◌, ◌≤◌, ◌↔◌, inl, inr, Bool, true, false, cond, List, [], ◌∷◌, ◌++◌, refl, sym, ap, ◌∙◌, subst, arith, ◌||◌}
use Rattle.std.specs.List.{sum_by, list_any}
use Rattle.std.specs.Cmp.{IsEquivalence}
use Rattle.std.proofs.Math.Bool.{or-true}
use Rattle.std.proofs.lemmas.Bool.{cases_lt, true≢false}
use Rattle.std.proofs.lemmas.List.Folds.{list_any-append}
use Rattle.std.proofs.lemmas.List.Sums.{sum_by-cons}
use Rattle.std.proofs.lemmas.Map.Steps.{list_any_congr}
use Rattle.concurrent_lru.specs.Weights.{end_from}
use Rattle.concurrent_lru.proofs.Runs.LargerCapacity.{fitting_any}
use Rattle.concurrent_lru.proofs.Runs.LongestEnds.{Fitting, AreDistinctKeys, others}

pub any_right : {X : Type 0} (q : X → Bool) (a b : List X) → list_any q b ≡ true → list_any q (a ++ b) ≡ true
any_right q a b h = list_any-append q a b ∙ ap (λ t. list_any q a || t) h ∙ or-true (list_any q a)

module _ {K : Type 0} (E : K → K → Bool) where
  pub apart_end : (a b : List K) → AreDistinctKeys E (a ++ b) → AreDistinctKeys E b
  apart_end [] b d = d
  apart_end (x ∷ a) b d = apart_end a b d.1

  -- a key that is not k stays among the others
  pub any_others : (eq : IsEquivalence E) (q k : K) (ks : List K) → E q k ≡ false → list_any (E q) (others E k ks) ≡ list_any (E q) ks
  any_others eq q k [] n = refl
  any_others eq q k (l ∷ ks) n =
      let r = any_others eq q k ks n in
      elim (E l k) as (λ t. E l k ≡ t → list_any (E q) (cond (Rattle.std.proofs.Common.not t) (l ∷ others E k ks) (others E k ks)) ≡ (E q l || list_any (E q) ks)) [
        | true ↦ λ t.
            let far : E q l ≡ false = eq.symm q l ∙ eq.congr l k q t ∙ eq.symm k q ∙ n in
            r ∙ ap (λ s. s || list_any (E q) ks) (sym far)
        | false ↦ λ t. ap (λ s. E q l || s) r
      ] refl

  module _ (price : K → ℕ) (eq : IsEquivalence E) where
    -- of keys that are apart, the end from a key is that of any end that has the key
    pub end_behind : (q : K) (a b : List K) → AreDistinctKeys E (a ++ b) → list_any (E q) b ≡ true → end_from E q (a ++ b) ≡ end_from E q b
    end_behind q [] b d h = refl
    end_behind q (x ∷ a) b d h = elim (E q x) as (λ t. E q x ≡ t → cond t (x ∷ (a ++ b)) (end_from E q (a ++ b)) ≡ end_from E q b) [
      | true ↦ λ t. absurd (true≢false (sym (any_right (E q) a b h) ∙ list_any_congr eq q x (a ++ b) t ∙ d.0))
      | false ↦ λ t. end_behind q a b d.1 h
    ] refl

    pub end_sum : (q : K) (ks : List K) → sum_by price (end_from E q ks) ≤ sum_by price ks
    end_sum q [] = omega arith
    end_sum q (k ∷ ks) =
        let r : sum_by price (end_from E q ks) ≤ sum_by price ks = end_sum q ks in
        let s : sum_by price (k ∷ ks) ≡ price k + sum_by price ks = sum_by-cons price k ks in
        elim (E q k) as (λ t. sum_by price (cond t (k ∷ ks) (end_from E q ks)) ≤ sum_by price (k ∷ ks)) [ true ↦ omega arith | false ↦ omega (arith, r, s) ]

    -- what is in the longest end that fits weighs at most the capacity
    pub fits_light : (c : ℕ) (q : K) (ks t : List K) → AreDistinctKeys E ks → Fitting price 0 c ks t → list_any (E q) t ≡ true → sum_by price (end_from E q ks) ≤ c
    fits_light c q [] t d f h = omega arith
    fits_light c q (k ∷ ks) t d f h = elim f [
      | inl a ↦ let r : sum_by price (end_from E q (k ∷ ks)) ≤ sum_by price (k ∷ ks) = end_sum q (k ∷ ks) in omega (arith, r, a.0)
      | inr a ↦ elim (E q k) as (λ t. E q k ≡ t → sum_by price (cond t (k ∷ ks) (end_from E q ks)) ≤ c) [
        | true ↦ λ e. absurd (true≢false (sym (fitting_any price c (E q) ks t a.1 h) ∙ list_any_congr eq q k ks e ∙ d.0))
        | false ↦ λ e. fits_light c q ks t d.1 a.1 h
      ] refl
    ]

    -- and what weighs at most the capacity is in it
    pub light_fits : (c : ℕ) (q : K) (ks t : List K) → Fitting price 0 c ks t → list_any (E q) ks ≡ true → sum_by price (end_from E q ks) ≤ c → list_any (E q) t ≡ true
    light_fits c q [] t f h w = absurd (true≢false (sym h))
    light_fits c q (k ∷ ks) t f h w = elim f [
      | inl a ↦ ap (list_any (E q)) a.1 ∙ h
      | inr a ↦ elim (E q k) as (λ s. (s || list_any (E q) ks) ≡ true → sum_by price (cond s (k ∷ ks) (end_from E q ks)) ≤ c → list_any (E q) t ≡ true) [
        | true ↦ λ h w. absurd (omega (arith, a.0, w))
        | false ↦ λ h w. light_fits c q ks t a.1 h w
      ] h w
    ]

    -- an end that has just the keys that weigh at most the capacity is the longest that fits
    pub light_end : (c : ℕ) (gone kept : List K) → AreDistinctKeys E (gone ++ kept) → ((q : K) → list_any (E q) (gone ++ kept) ≡ true → (list_any (E q) kept ≡ true) ↔ (sum_by price (end_from E q (gone ++ kept)) ≤ c)) → Fitting price 0 c (gone ++ kept) kept
    light_end c [] [] d h = refl
    light_end c [] (k ∷ kept) d h =
        let first : list_any (E k) (k ∷ kept) ≡ true = ap (λ t. t || list_any (E k) kept) (eq.refl k) in
        let w : sum_by price (k ∷ kept) ≤ c = subst (λ t. sum_by price (cond t (k ∷ kept) (end_from E k kept)) ≤ c) (eq.refl k) ((h k first).0 first) in
        inl (omega (arith, w), refl)
    light_end c (g ∷ gone) kept d h =
        let first : list_any (E g) (g ∷ (gone ++ kept)) ≡ true = ap (λ t. t || list_any (E g) (gone ++ kept)) (eq.refl g) in
        elim (cases_lt c (sum_by price (g ∷ (gone ++ kept)))) [
          | inl more ↦ inr (omega (arith, more), light_end c gone kept d.1 (λ q m. subst (λ zs. (list_any (E q) kept ≡ true) ↔ (sum_by price zs ≤ c)) (end_behind q (g ∷ []) (gone ++ kept) d m) (h q (any_right (E q) (g ∷ []) (gone ++ kept) m))))
          | inr less ↦ absurd (true≢false (sym (any_right (E g) gone kept ((h g first).1 (subst (λ t. sum_by price (cond t (g ∷ (gone ++ kept)) (end_from E g (gone ++ kept))) ≤ c) (sym (eq.refl g)) less))) ∙ d.0))
        ]
