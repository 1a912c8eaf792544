-- Sums over views, and receipts by their positions.
use Rattle.std.proofs.Common.{◌≡◌, ◌≢◌, ◌==◌, ◌≤◌, ℕ, zero, suc, ◌+◌, ◌-◌, List, [], ◌∷◌, ◌++◌, length, length-append, get_or, set, Some, Bool, true, false, eq-eqb, ne_eqb, refl, sym, ap, ◌∙◌, subst, arith}
use Rattle.std.specs.Prelude.{slice_get, if◌then◌else◌}
use Rattle.std.proofs.lemmas.Option.{slice_get_within}
use Rattle.std.proofs.Math.Seq.{get_or-append_seam}
use mathlib.Core.Option.{some, some-ne-none, some-injective}
use native.Mathlib.Decide.{ℕ_discrete}
use lib.ListN.{get_elem?}
use Rattle.lru_journal.specs.Tallies.{sum_over, receipts_at, receipt_count_at, once_below, record_at, Stand, AllBelow, AreExactly}

-- the total after a change of one
pub sum_over_set : {A : Type 0} (f : A → ℕ) (xs : List A) (i : ℕ) (v w : A) → get_elem? xs i ≡ some v → sum_over f (set xs i w) + f v ≡ sum_over f xs + f w
sum_over_set f [] i v w e = absurd (some-ne-none v (sym e))
sum_over_set f (x ∷ xs) zero v w e = let h : f x ≡ f v = ap f (some-injective x v e) in omega (arith, h)
sum_over_set f (x ∷ xs) (suc i) v w e = let r = sum_over_set f xs i v w e in omega (arith, r)

pub sum_over_snoc : {A : Type 0} (f : A → ℕ) (xs : List A) (x : A) → sum_over f (xs ++ x ∷ []) ≡ sum_over f xs + f x
sum_over_snoc f [] x = omega arith
sum_over_snoc f (y ∷ ys) x = let r = sum_over_snoc f ys x in omega (arith, r)

-- what one has in all is no more than the total
pub sum_over_has : {A : Type 0} (f : A → ℕ) (xs : List A) (i : ℕ) (v : A) → get_elem? xs i ≡ some v → f v ≤ sum_over f xs
sum_over_has f [] i v e = absurd (some-ne-none v (sym e))
sum_over_has f (x ∷ xs) zero v e = let h : f x ≡ f v = ap f (some-injective x v e) in omega (arith, h)
sum_over_has f (x ∷ xs) (suc i) v e = let r = sum_over_has f xs i v e in omega (arith, r)

none_left : {A : Type 0} (f h : A → ℕ) (xs : List A) → ((j : ℕ) (u : A) → get_elem? xs j ≡ some u → f u ≡ 0 → h u ≡ 0) → sum_over f xs ≡ 0 → sum_over h xs ≡ 0
none_left f h [] idle e = refl
none_left f h (x ∷ xs) idle e =
    let a : h x ≡ 0 = idle zero x refl (omega (arith, e)) in
    let r = none_left f h xs (λ j u. idle (suc j) u) (omega (arith, e)) in
    omega (arith, a, r)

-- who has all of f has all of h, where those with nothing of f have nothing of h
pub alone : {A : Type 0} (f h : A → ℕ) (xs : List A) (i : ℕ) (v : A) → ((j : ℕ) (u : A) → get_elem? xs j ≡ some u → f u ≡ 0 → h u ≡ 0) → get_elem? xs i ≡ some v → sum_over f xs ≡ f v → sum_over h xs ≡ h v
alone f h [] i v idle at e = absurd (some-ne-none v (sym at))
alone f h (x ∷ xs) zero v idle at e =
    let same : f x ≡ f v = ap f (some-injective x v at) in
    let same' : h x ≡ h v = ap h (some-injective x v at) in
    let r = none_left f h xs (λ j u. idle (suc j) u) (omega (arith, e, same)) in
    omega (arith, r, same')
alone f h (x ∷ xs) (suc i) v idle at e =
    let most = sum_over_has f xs i v at in
    let first : h x ≡ 0 = idle zero x refl (omega (arith, e, most)) in
    let r = alone f h xs i v (λ j u. idle (suc j) u) at (omega (arith, e, most)) in
    omega (arith, r, first)

module _ {A : Type 0} where
  pub receipt_count_append : (n : ℕ) (xs ys : List (ℕ × A)) → receipt_count_at n (xs ++ ys) ≡ receipt_count_at n xs + receipt_count_at n ys
  receipt_count_append n [] ys = omega arith
  receipt_count_append n (x ∷ xs) ys =
      let r = receipt_count_append n xs ys in
      elim (x.0 == n) as (λ (b : Bool). (if b then suc (receipt_count_at n (xs ++ ys)) else receipt_count_at n (xs ++ ys)) ≡ (if b then suc (receipt_count_at n xs) else receipt_count_at n xs) + receipt_count_at n ys)
      [ true ↦ omega (arith, r) | false ↦ r ]

  pub stand_append : (log : List A) (xs ys : List (ℕ × A)) → Stand log xs → Stand log ys → Stand log (xs ++ ys)
  stand_append log [] ys p q = q
  stand_append log (x ∷ xs) ys p q = (p.0, stand_append log xs ys p.1 q)

  get_front : (xs ys : List A) (k : ℕ) (p : A) → slice_get xs k ≡ Some p → slice_get (xs ++ ys) k ≡ Some p
  get_front [] ys k p e = absurd (cc)
  get_front (x ∷ xs) ys zero p e = e
  get_front (x ∷ xs) ys (suc k) p e = get_front xs ys k p e

  -- records only grow, so a receipt stays true
  pub stand_longer : (log more : List A) (xs : List (ℕ × A)) → Stand log xs → Stand (log ++ more) xs
  stand_longer log more [] p = tt
  stand_longer log more (x ∷ xs) p = (get_front log more x.0 x.1 p.0, stand_longer log more xs p.1)

  pub get_last : (log : List A) (r : A) → slice_get (log ++ r ∷ []) (length log) ≡ Some r
  get_last [] r = refl
  get_last (x ∷ xs) r = get_last xs r

  pub stand_below : (log : List A) (xs : List (ℕ × A)) → Stand log xs → AllBelow (length log) xs
  stand_below log [] p = tt
  stand_below log (x ∷ xs) p = (slice_get_within log x.0 x.1 p.0, stand_below log xs p.1)

  -- as many stand at n as are counted there
  length_at : (n : ℕ) (xs : List (ℕ × A)) → length (receipts_at n xs) ≡ receipt_count_at n xs
  length_at n [] = refl
  length_at n (x ∷ xs) =
      let r = length_at n xs in
      elim (x.0 == n) as (λ (b : Bool). length (if b then x.1 ∷ receipts_at n xs else receipts_at n xs) ≡ (if b then suc (receipt_count_at n xs) else receipt_count_at n xs))
      [ true ↦ ap suc r | false ↦ r ]

once_here : (c : ℕ) → once_below c c ≡ 0
once_here zero = refl
once_here (suc c) = once_here c

once_next : (c : ℕ) → once_below c (suc c) ≡ 1
once_next zero = refl
once_next (suc c) = once_next c

once_else : (n c : ℕ) → c ≢ n → once_below n (suc c) ≡ once_below n c
once_else zero zero apart = absurd (apart refl)
once_else zero (suc c) apart = refl
once_else (suc n) zero apart = refl
once_else (suc n) (suc c) apart = once_else n c (λ e. apart (ap suc e))

-- a new receipt at the count is counted
pub once_more : {A : Type 0} (n c : ℕ) (r : A) → once_below n c + receipt_count_at n ((c, r) ∷ []) ≡ once_below n (suc c)
once_more n c r =
    elim (ℕ_discrete c n) [
      | yes e ↦ (let a : receipt_count_at n ((c, r) ∷ []) ≡ 1 = rw (eq-eqb c n e) refl in let b = once_here c in let d = once_next c in subst (λ (k : ℕ). once_below k c + receipt_count_at n ((c, r) ∷ []) ≡ once_below k (suc c)) e (omega (arith, a, b, d)))
      | no apart ↦ (let a : receipt_count_at n ((c, r) ∷ []) ≡ 0 = rw (ne_eqb c n apart) refl in let d = once_else n c apart in omega (arith, a, d))
    ]

module _ {A : Type 0} where
  -- the first that stands at n is what stands at n among the records
  first_at : (n : ℕ) (log : List A) (xs : List (ℕ × A)) → Stand log xs → (y : A) (zs : List A) → receipts_at n xs ≡ y ∷ zs → slice_get log n ≡ Some y
  first_at n log [] p y zs e = absurd (cc)
  first_at n log (x ∷ xs) p y zs e =
      elim (ℕ_discrete x.0 n) [
        | yes same ↦ (let b = eq-eqb x.0 n same in let e' : x.1 ∷ receipts_at n xs ≡ y ∷ zs = subst (λ (b : Bool). (if b then x.1 ∷ receipts_at n xs else receipts_at n xs) ≡ y ∷ zs) b e in subst (λ (k : ℕ). slice_get log k ≡ Some y) same (cc (p.0, e')))
        | no apart ↦ (let b = ne_eqb x.0 n apart in first_at n log xs p.1 y zs (subst (λ (b : Bool). (if b then x.1 ∷ receipts_at n xs else receipts_at n xs) ≡ y ∷ zs) b e))
      ]

  same_slot : (n : ℕ) (log : List A) (ys : List A) → length ys ≡ once_below n (length log) → ((y : A) (zs : List A) → ys ≡ y ∷ zs → slice_get log n ≡ Some y) → ys ≡ record_at n log
  same_slot n [] [] e h = refl
  same_slot n [] (y ∷ ys) e h = absurd (omega (arith, e))
  same_slot zero (x ∷ xs) [] e h = absurd (omega (arith, e))
  same_slot zero (x ∷ xs) (y ∷ []) e h = let s = h y [] refl in cc (s)
  same_slot zero (x ∷ xs) (y ∷ z ∷ zs) e h = absurd (omega (arith, e))
  same_slot (suc n) (x ∷ xs) ys e h = same_slot n xs ys e h

  -- where the receipts stand, and their positions are the numbers below the count, each once, the
  -- records are exactly the receipts
  pub exactly : (log : List A) (xs : List (ℕ × A)) → Stand log xs → ((n : ℕ) → receipt_count_at n xs ≡ once_below n (length log)) → AreExactly log xs
  exactly log xs p once n = same_slot n log (receipts_at n xs) (length_at n xs ∙ once n) (first_at n log xs p)

module _ {A : Type 0} where
  pub count_last : (all xs : List A) (r : A) → xs ≡ all ++ r ∷ [] → length all ≡ length xs - 1
  count_last all xs r e = let n : length xs ≡ length (all ++ r ∷ []) = ap length e in omega (arith, n, length-append all (r ∷ []))

  pub last_is : (all xs : List A) (r x : A) → xs ≡ all ++ r ∷ [] → x ≡ get_or xs (length xs - 1) x → x ≡ r
  last_is all xs r x e is = is ∙ ((λ i. get_or (e i) (sym (count_last all xs r e) i) x) ∙ get_or-append_seam all r [] x)
