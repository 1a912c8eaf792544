-- An idle entry that is held again: what every cache keeps is kept.
use Rattle.std.proofs.Common.{◌≡◌, ℕ, ◌+◌, ◌<◌, ◌^◌, inl, inr, Bool, true, false, cond, not, List, [], ◌∷◌, map, Some, refl, sym, ap, ◌∙◌, subst, arith, eqb, ◌==◌}
use Rattle.std.specs.List.{find, filter, IsDistinct, AllByRecursion}
use Rattle.std.specs.FinMap as finmap
use Rattle.std.specs.Cmp.{nat_eq_equiv}
use Rattle.std.proofs.lemmas.Bool.{eqb-true, eq-eqb, true≢false}
use Rattle.std.proofs.lemmas.Option.{none-some, same_Some}
use Rattle.concurrent_lru.specs.Cache.{Cache, Idle, IsLawful, idle_at, sum_of, charges}
use Rattle.concurrent_lru.specs.Steps.{with_held, without, held_by_one, Revives}
use Rattle.concurrent_lru.specs.Representation.{held_charges}
use Rattle.concurrent_lru.proofs.Entries.NodesOfSetAndAdd.{inserted_cases, inserted_other}
use Rattle.concurrent_lru.proofs.Lists.DistinctNumbers.{IsDistinct-filter}
use Rattle.concurrent_lru.proofs.Steps.LawfulAfterChange.{IsOrderly, orderly, orderly_fewer, lawful_from}
use Rattle.concurrent_lru.proofs.Entries.SumsOfHeld.{sum-insert, sum_by-cons}

module _ {K V : Type 0} where
  pub find_without : (s t : ℕ) (y : Idle K V) (xs : List (Idle K V)) → find (λ z. z.stamp == t) (without s xs) ≡ Some y → (find (λ z. z.stamp == t) xs ≡ Some y) × ((t ≡ s) → ⊥)
  find_without s t y [] h = absurd (none-some y h)
  find_without s t y (x ∷ xs) h =
      elim (x.stamp == s) as (λ b. (x.stamp == s) ≡ b → find (λ z. z.stamp == t) (cond (not b) (x ∷ without s xs) (without s xs)) ≡ Some y → (cond (x.stamp == t) (Some x) (find (λ z. z.stamp == t) xs) ≡ Some y) × ((t ≡ s) → ⊥)) [
        | true ↦ λ b k.
            let r = find_without s t y xs k in
            (ap (λ u. cond u (Some x) (find (λ z. z.stamp == t) xs)) (Rattle.std.proofs.lemmas.Bool.ne_eqb x.stamp t (λ e. r.1 (sym e ∙ eqb-true x.stamp s b))) ∙ r.0, r.1)
        | false ↦ λ b k. elim (x.stamp == t) as (λ u. (x.stamp == t) ≡ u → cond u (Some x) (find (λ z. z.stamp == t) (without s xs)) ≡ Some y → (cond u (Some x) (find (λ z. z.stamp == t) xs) ≡ Some y) × ((t ≡ s) → ⊥)) [
          | true ↦ λ u m. (m, λ e. true≢false (sym (eq-eqb x.stamp s (eqb-true x.stamp t u ∙ e)) ∙ b))
          | false ↦ λ u m. find_without s t y xs m
        ] refl k
      ] refl h

  pub map_without : (s : ℕ) (xs : List (Idle K V)) → map (λ x. x.stamp) (without s xs) ≡ filter (λ q. not (eqb q s)) (map (λ x. x.stamp) xs)
  map_without s [] = refl
  map_without s (x ∷ xs) = elim (x.stamp == s) as (λ b. map (λ x. x.stamp) (cond (not b) (x ∷ without s xs) (without s xs)) ≡ cond (not b) (x.stamp ∷ filter (λ q. not (eqb q s)) (map (λ x. x.stamp) xs)) (filter (λ q. not (eqb q s)) (map (λ x. x.stamp) xs))) [
    | true ↦ map_without s xs
    | false ↦ ap (λ ys. x.stamp ∷ ys) (map_without s xs)
  ]

  pub without_none : (s : ℕ) (xs : List (Idle K V)) → AllByRecursion (λ z. eqb s z ≡ false) (map (λ z. z.stamp) xs) → without s xs ≡ xs
  without_none s [] h = refl
  without_none s (x ∷ xs) h = ap (λ b. cond (not b) (x ∷ without s xs) (without s xs)) (nat_eq_equiv.symm x.stamp s ∙ h.0) ∙ ap (λ ys. x ∷ ys) (without_none s xs h.1)

  pub charges_without : (s : ℕ) (y : Idle K V) (xs : List (Idle K V)) → IsDistinct eqb (map (λ x. x.stamp) xs) → find (λ z. z.stamp == s) xs ≡ Some y → charges (without s xs) + y.charge ≡ charges xs
  unfolding IsDistinct
  charges_without s y [] d h = absurd (none-some y h)
  charges_without s y (x ∷ xs) d h =
      let a : charges (x ∷ xs) ≡ x.charge + charges xs = sum_by-cons (λ z. z.charge) x xs in
      elim (x.stamp == s) as (λ b. (x.stamp == s) ≡ b → cond b (Some x) (find (λ z. z.stamp == s) xs) ≡ Some y → charges (cond (not b) (x ∷ without s xs) (without s xs)) + y.charge ≡ charges (x ∷ xs)) [
        | true ↦ λ b k.
            let same : x.charge ≡ y.charge = ap (λ z. z.charge) (same_Some _ _ k) in
            let rest : charges (without s xs) ≡ charges xs = ap charges (without_none s xs (subst (λ n. AllByRecursion (λ z. eqb n z ≡ false) (map (λ z. z.stamp) xs)) (eqb-true x.stamp s b) d.0)) in
            omega (arith, a, same, rest)
        | false ↦ λ b k.
            let i : charges (without s xs) + y.charge ≡ charges xs = charges_without s y xs d.1 k in
            let c : charges (x ∷ without s xs) ≡ x.charge + charges (without s xs) = sum_by-cons (λ z. z.charge) x (without s xs) in
            omega (arith, a, i, c)
      ] refl h

  abbrev pub revived : Cache K V → ℕ → Idle K V → Cache K V
  revived c s x = record (with_held c s (held_by_one x)) { idle = without s c.idle }

  orderly-revived : (E : K → K → Bool) (c : Cache K V) (s : ℕ) (x : Idle K V) → IsOrderly E c → 0 < c.most_pins → idle_at c s ≡ Some x → IsOrderly E (revived c s x)
  orderly-revived E c s x o high at = orderly_fewer E c (revived c s x) o
      (λ t k m a. elim a [
        | inl i ↦ inl (i.0, (find_without s t i.0 c.idle i.1).0, i.2, i.3)
        | inr h ↦ elim (inserted_cases c.held s t (held_by_one x) h.0 h.1) [
          | inl w ↦ inl (x, ap (λ u. find (λ z. z.stamp == u) c.idle) w.0 ∙ at, sym (ap (λ y. y.key) w.1) ∙ h.2, sym (ap (λ y. y.charge) w.1) ∙ h.3)
          | inr was ↦ inr (h.0, was, h.2, h.3)
        ]
      ])
      (λ t k m a. elim a [
        | inl i ↦ inl (i.0, (find_without s t i.0 c.idle i.1).0, i.2, i.3)
        | inr h ↦ elim (inserted_cases c.held s t (held_by_one x) h.0 h.1) [
          | inl w ↦ inl (x, ap (λ u. find (λ z. z.stamp == u) c.idle) w.0 ∙ at, sym (ap (λ y. y.key) w.1) ∙ h.2, sym (ap (λ y. y.charge) w.1) ∙ h.3)
          | inr was ↦ inr (h.0, was, h.2, h.3, h.4)
        ]
      ])
      refl (subst (IsDistinct eqb) (sym (map_without s c.idle)) (IsDistinct-filter s (map (λ x. x.stamp) c.idle) o.idle_apart))
      (λ t y i. let r = find_without s t y c.idle i in inserted_other c.held s t (held_by_one x) (Rattle.std.proofs.lemmas.Bool.ne_eqb t s r.1) ∙ o.held_apart t y r.0)
      (λ t e h. elim (inserted_cases c.held s t (held_by_one x) e h) [
        | inl w ↦ let one : e.pins ≡ 1 = ap (λ y. y.pins) w.1 in (omega (arith, one), omega (arith, one))
        | inr was ↦ o.pinned t e was
      ])

  pub sum-revived : (E : K → K → Bool) (c : Cache K V) (s : ℕ) (x : Idle K V) → IsOrderly E c → idle_at c s ≡ Some x → sum_of (revived c s x) ≡ sum_of c
  sum-revived E c s x o at =
      let a : charges (without s c.idle) + x.charge ≡ charges c.idle = charges_without s x c.idle o.idle_apart at in
      let b : held_charges (finmap.insert c.held s (held_by_one x)) ≡ held_charges c.held + x.charge = sum-insert (λ e. e.charge) c.held s (held_by_one x) (o.held_apart s x at) in
      omega (arith, a, b)

  pub revives_lawful : (E : K → K → Bool) (old new : Cache K V) (k : K) (s : ℕ) (v : V) (out : List (Idle K V)) → IsLawful E old → 0 < old.most_pins → Revives E old k s v out new → IsLawful E new
  revives_lawful E old new k s v out l high r =
      let o = orderly l in
      let sum : sum_of (revived old s r.entry) ≡ sum_of old = sum-revived E old s r.entry o r.at in
      let more : old.capacity < sum_of (revived old s r.entry) → without s old.idle ≡ [] = λ h. ap (without s) (l.settled (subst (λ n. old.capacity < n) sum h)) in
      subst (IsLawful E) (sym r.changed) (lawful_from (orderly-revived E old s r.entry o high r.at) (subst (λ n. n < 2 ^ 64) (sym sum) l.sum_fits) more)
