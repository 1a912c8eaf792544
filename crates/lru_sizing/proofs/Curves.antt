-- Counts of weights in order of size, and sums of the charges that go with them.
use Rattle.std.proofs.Common.{◌≡◌, ℕ, zero, suc, ◌+◌, ◌-◌, ◌<◌, ◌≤◌, inl, inr, Bool, true, false, cond, List, [], ◌∷◌, ◌++◌, length, map, get_or, take, leb, Option, Some, None, refl, sym, ap, ◌∙◌, subst, arith}
use Rattle.std.specs.Borrow.{Bor}
use Rattle.std.specs.List.{count_by, sum, sum_by, zip}
use Rattle.std.specs.List.Sorted.{IsPartitionedBy, IsPartitionPoint, IsNonDecreasingBy, IsPermutation}
use Rattle.std.specs.Option.{MatchOption, IfSome, option_copied}
use Rattle.std.proofs.lemmas.Bool.{cases_lt, le-leb, lt-leb, leb-true}
use Rattle.std.proofs.lemmas.List.{get_or-map, get_or_append_left, get_or_push, length-map, length_push, length-take-le, map_push, take_all, take_more}
use Rattle.std.proofs.lemmas.List.Sorted.{IsPermutation-map, length_permutation, sum_by-IsPermutation}
use Rattle.std.proofs.lemmas.List.Sums.{sum_by-cons, sum_by_more, sum_by-take-le}
use Rattle.lru_sizing.specs.HitsByWeight.{fits, hits_at}
use Rattle.lru_sizing.specs.Curves.{StepCurve, weights_within, hits_in, charge_made_at, reused, IsCurveOf, IsRising, IsStepCurve, IsLeastFor}

-- one number more
count_one : (p : ℕ → Bool) (x : ℕ) (xs : List ℕ) → count_by p (x ∷ xs) ≡ cond (p x) 1 0 + count_by p xs
count_one p x xs = sum_by-cons (λ y. cond (p y) 1 0) x xs

-- where the first r pass, at least so many do
pub count_first : (p : ℕ → Bool) (xs : List ℕ) (r : ℕ) → r ≤ length xs → ((k : ℕ) → k < r → p (get_or xs k 0) ≡ true) → r ≤ count_by p xs
count_first p xs zero l h = omega arith
count_first p [] (suc r) l h = absurd (omega (arith, l))
count_first p (x ∷ xs) (suc r) l h =
    let i : r ≤ count_by p xs = count_first p xs r (omega (arith, l)) (λ k m. h (suc k) (omega (arith, m))) in
    let a : count_by p (x ∷ xs) ≡ cond (p x) 1 0 + count_by p xs = count_one p x xs in
    let b : cond {A = ℕ} (p x) 1 0 ≡ 1 = ap (λ t. cond {A = ℕ} t 1 0) (h 0 (omega arith)) in
    omega (arith, i, a, b)

-- and where those from r on fail, at most so many
pub count_last : (p : ℕ → Bool) (xs : List ℕ) (r : ℕ) → ((k : ℕ) → r ≤ k → k < length xs → p (get_or xs k 0) ≡ false) → count_by p xs ≤ r
count_last p [] r h = omega arith
count_last p (x ∷ xs) zero h =
    let i : count_by p xs ≤ 0 = count_last p xs zero (λ k low high. h (suc k) (omega arith) (omega (arith, high))) in
    let a : count_by p (x ∷ xs) ≡ cond (p x) 1 0 + count_by p xs = count_one p x xs in
    let b : cond {A = ℕ} (p x) 1 0 ≡ 0 = ap (λ t. cond {A = ℕ} t 1 0) (h 0 (omega arith) (omega arith)) in
    omega (arith, i, a, b)
count_last p (x ∷ xs) (suc r) h =
    let i : count_by p xs ≤ r = count_last p xs r (λ k low high. h (suc k) (omega (arith, low)) (omega (arith, high))) in
    let a : count_by p (x ∷ xs) ≡ cond (p x) 1 0 + count_by p xs = count_one p x xs in
    let b : cond {A = ℕ} (p x) 1 0 ≤ 1 = elim (p x) as (λ t. cond {A = ℕ} t 1 0 ≤ 1) [ true ↦ omega arith | false ↦ omega arith ] in
    omega (arith, i, a, b)

-- so many hit first at the weight of the last of them
pub least_at : (curve : StepCurve) (r : ℕ) → IsRising curve.weights → r < length curve.weights → IsLeastFor (r + 1) (λ c. hits_in c curve) (get_or curve.weights r 0)
least_at curve r up l =
    let xs = curve.weights in
    record {
      enough = count_first (λ w. leb w (get_or curve.weights r 0)) curve.weights (r + 1) (omega (arith, l)) (λ k m. le-leb (get_or curve.weights k 0) (get_or curve.weights r 0) (up k r (omega (arith, m)) l));
      least = λ less m.
          let most : weights_within less curve.weights ≤ r = count_last (λ w. leb w less) curve.weights r (λ k low high.
          let u : get_or curve.weights r 0 ≤ get_or curve.weights k 0 = up r k low high in
          lt-leb (get_or curve.weights k 0) less (omega (arith, u, m))) in
          omega (arith, most);
    }

same_default : (xs : List ℕ) (i d e : ℕ) → i < length xs → get_or xs i d ≡ get_or xs i e
same_default [] i d e l = absurd (omega (arith, l))
same_default (x ∷ xs) zero d e l = refl
same_default (x ∷ xs) (suc i) d e l = same_default xs i d e (omega (arith, l))

-- the weights of at most a capacity come first
pub rising_parts : (xs : List ℕ) (capacity : ℕ) → IsRising xs → IsPartitionedBy (λ w. leb w capacity) xs
rising_parts xs capacity up i j d le l t =
    let a : get_or xs j d ≤ capacity = leb-true (get_or xs j d) capacity t in
    let b : get_or xs i 0 ≤ get_or xs j 0 = up i j le l in
    let e : get_or xs j d ≡ get_or xs j 0 = same_default xs j d 0 l in
    let f : get_or xs i d ≡ get_or xs i 0 = same_default xs i d 0 (omega (arith, le, l)) in
    le-leb (get_or xs i d) capacity (omega (arith, a, b, e, f))

-- and there are as many as come before the others
pub point_counts : (xs : List ℕ) (capacity r : ℕ) → r ≤ length xs → IsPartitionPoint (λ y. leb y capacity ≡ true) (λ y. leb y capacity ≡ false) xs r → r ≡ weights_within capacity xs
point_counts xs capacity r l point =
    let low : r ≤ weights_within capacity xs = count_first (λ w. leb w capacity) xs r l (λ k m. point.0 k 0 (omega arith) m) in
    let high : weights_within capacity xs ≤ r = count_last (λ w. leb w capacity) xs r (λ k m n. point.1 k 0 m n) in
    omega (arith, low, high)

-- no more weights than there are fit
pub within_all : (xs : List ℕ) (capacity : ℕ) → weights_within capacity xs ≤ length xs
within_all xs capacity = count_last (λ w. leb w capacity) xs (length xs) (λ k low high. absurd (omega (arith, low, high)))

-- what a look-up of the last of so many tells
pub least_found : (curve : StepCurve) (hits : ℕ) (o : Option (Bor ℕ)) (Z : Bor ℕ → Type 0) → 0 < hits → IsRising curve.weights → MatchOption o (length curve.weights ≤ hits - 1) (λ x. (hits - 1 < length curve.weights) × Z x) → IfSome o (λ x. x.now ≡ get_or curve.weights (hits - 1) x.now)
    → MatchOption (option_copied o) (length curve.weights < hits) (IsLeastFor hits (λ c. hits_in c curve))
least_found curve hits None Z pos up m f = omega (arith, pos, m)
least_found curve hits (Some x) Z pos up m f =
    let all : hits - 1 + 1 ≡ hits = omega (arith, pos) in
    subst (IsLeastFor hits (λ c. hits_in c curve)) (sym (f ∙ same_default curve.weights (hits - 1) x.now 0 m.0)) (subst (λ n. IsLeastFor n (λ c. hits_in c curve) (get_or curve.weights (hits - 1) 0)) all (least_at curve (hits - 1) up m.0))

-- the weights of pairs of a weight and a charge, and their charges
abbrev pub pair_weights : List (ℕ × ℕ) → List ℕ
pair_weights ps = map (λ p. p.0) ps

abbrev pub pair_charges : List (ℕ × ℕ) → List ℕ
pair_charges ps = map (λ p. p.1) ps

-- how many of these pairs have a weight that fits, and the sum of their charges
abbrev pub pairs_within : ℕ → List (ℕ × ℕ) → ℕ
pairs_within capacity ps = count_by (λ p. leb p.0 capacity) ps

abbrev pub charge_within : ℕ → List (ℕ × ℕ) → ℕ
charge_within capacity ps = sum_by (λ p. cond (leb p.0 capacity) p.1 0) ps

pub within_firsts : (ps : List (ℕ × ℕ)) (capacity : ℕ) → weights_within capacity (pair_weights ps) ≡ pairs_within capacity ps
within_firsts [] capacity = refl
within_firsts (p ∷ ps) capacity =
    let i : weights_within capacity (pair_weights ps) ≡ pairs_within capacity ps = within_firsts ps capacity in
    let a : weights_within capacity (pair_weights (p ∷ ps)) ≡ cond (leb p.0 capacity) 1 0 + weights_within capacity (pair_weights ps) = sum_by-cons (λ (w : ℕ). cond (leb w capacity) 1 0) p.0 (pair_weights ps) in
    let b : pairs_within capacity (p ∷ ps) ≡ cond (leb p.0 capacity) 1 0 + pairs_within capacity ps = sum_by-cons (λ (q : ℕ × ℕ). cond (leb q.0 capacity) 1 0) p ps in
    a ∙ ap (λ n. cond (leb p.0 capacity) 1 0 + n) i ∙ sym b

-- where all weights are above a capacity, none fits
none_within : (ps : List (ℕ × ℕ)) (capacity : ℕ) → ((k : ℕ) (d : ℕ × ℕ) → k < length ps → capacity < (get_or ps k d).0) → (pairs_within capacity ps ≡ 0) × (charge_within capacity ps ≡ 0)
none_within [] capacity h = (refl, refl)
none_within (p ∷ ps) capacity h =
    let i = none_within ps capacity (λ k d l. h (suc k) d (omega (arith, l))) in
    let none : leb p.0 capacity ≡ false = lt-leb p.0 capacity (h 0 p (omega arith)) in
    let a : pairs_within capacity (p ∷ ps) ≡ cond (leb p.0 capacity) 1 0 + pairs_within capacity ps = sum_by-cons (λ (q : ℕ × ℕ). cond (leb q.0 capacity) 1 0) p ps in
    let b : charge_within capacity (p ∷ ps) ≡ cond (leb p.0 capacity) p.1 0 + charge_within capacity ps = sum_by-cons (λ (q : ℕ × ℕ). cond (leb q.0 capacity) q.1 0) p ps in
    let d : cond {A = ℕ} (leb p.0 capacity) 1 0 ≡ 0 = ap (λ t. cond {A = ℕ} t 1 0) none in
    let e : cond {A = ℕ} (leb p.0 capacity) p.1 0 ≡ 0 = ap (λ t. cond {A = ℕ} t p.1 0) none in
    (omega (arith, i.0, a, d), omega (arith, i.1, b, e))

-- in order of weight, the charges of those that fit are the first ones
pub first_charges : (ps : List (ℕ × ℕ)) (capacity : ℕ) → IsNonDecreasingBy (λ (p : ℕ × ℕ). p.0) ps → sum (take (pairs_within capacity ps) (pair_charges ps)) ≡ charge_within capacity ps
first_charges [] capacity up = refl
first_charges (p ∷ ps) capacity up =
    let i : sum (take (pairs_within capacity ps) (pair_charges ps)) ≡ charge_within capacity ps = first_charges ps capacity (λ j k d le l. up (suc j) (suc k) d (omega (arith, le)) (omega (arith, l))) in
    let a : pairs_within capacity (p ∷ ps) ≡ cond (leb p.0 capacity) 1 0 + pairs_within capacity ps = sum_by-cons (λ (q : ℕ × ℕ). cond (leb q.0 capacity) 1 0) p ps in
    let b : charge_within capacity (p ∷ ps) ≡ cond (leb p.0 capacity) p.1 0 + charge_within capacity ps = sum_by-cons (λ (q : ℕ × ℕ). cond (leb q.0 capacity) q.1 0) p ps in
    elim (cases_lt capacity p.0) [
      | inl l ↦
          let none = none_within (p ∷ ps) capacity (λ k d m. let least : p.0 ≤ (get_or (p ∷ ps) k d).0 = up 0 k d (omega arith) m in omega (arith, l, least)) in
          ap (λ n. sum (take n (pair_charges (p ∷ ps)))) none.0 ∙ sym none.1
      | inr l ↦
          let fit : leb p.0 capacity ≡ true = le-leb p.0 capacity l in
          let count : pairs_within capacity (p ∷ ps) ≡ suc (pairs_within capacity ps) = a ∙ ap (λ t. cond t 1 0 + pairs_within capacity ps) fit ∙ omega arith in
          let charge : charge_within capacity (p ∷ ps) ≡ p.1 + charge_within capacity ps = b ∙ ap (λ t. cond t p.1 0 + charge_within capacity ps) fit in
          let cut : sum (p.1 ∷ take (pairs_within capacity ps) (pair_charges ps)) ≡ p.1 + sum (take (pairs_within capacity ps) (pair_charges ps)) = sum_by-cons (λ (x : ℕ). x) p.1 (take (pairs_within capacity ps) (pair_charges ps)) in
          ap (λ n. sum (take n (pair_charges (p ∷ ps)))) count ∙ omega (arith, cut, i, charge)
    ]

-- of the pairs that a trace has as many fit as it has hits
pub reused_hits : (charges : List ℕ) (weights : List (Option ℕ)) (capacity : ℕ) → length charges ≡ length weights → pairs_within capacity (reused charges weights) ≡ hits_at capacity weights
reused_hits [] [] capacity n = refl
reused_hits [] (w ∷ weights) capacity n = absurd (omega (arith, n))
reused_hits (c ∷ charges) [] capacity n = absurd (omega (arith, n))
reused_hits (c ∷ charges) (None ∷ weights) capacity n =
    let i : pairs_within capacity (reused charges weights) ≡ hits_at capacity weights = reused_hits charges weights capacity (omega (arith, n)) in
    let a : hits_at capacity (None ∷ weights) ≡ 0 + hits_at capacity weights = sum_by-cons (λ (o : Option ℕ). cond (fits capacity o) 1 0) None weights in
    omega (arith, i, a)
reused_hits (c ∷ charges) (Some w ∷ weights) capacity n =
    let i : pairs_within capacity (reused charges weights) ≡ hits_at capacity weights = reused_hits charges weights capacity (omega (arith, n)) in
    sum_by-cons (λ (q : ℕ × ℕ). cond (leb q.0 capacity) 1 0) (w, c) (reused charges weights) ∙ ap (λ m. cond (leb w capacity) 1 0 + m) i
    ∙ sym (sum_by-cons (λ (o : Option ℕ). cond (fits capacity o) 1 0) (Some w) weights)

-- what is made, and the charges of those that fit, are all charges
pub reused_made : (charges : List ℕ) (weights : List (Option ℕ)) (capacity : ℕ) → length charges ≡ length weights → charge_made_at capacity charges weights + charge_within capacity (reused charges weights) ≡ sum charges
reused_made [] [] capacity n = refl
reused_made [] (w ∷ weights) capacity n = absurd (omega (arith, n))
reused_made (c ∷ charges) [] capacity n = absurd (omega (arith, n))
reused_made (c ∷ charges) (None ∷ weights) capacity n =
    let i : charge_made_at capacity charges weights + charge_within capacity (reused charges weights) ≡ sum charges = reused_made charges weights capacity (omega (arith, n)) in
    let a : charge_made_at capacity (c ∷ charges) (None ∷ weights) ≡ c + charge_made_at capacity charges weights = sum_by-cons (λ (u : ℕ × Option ℕ). cond (fits capacity u.1) 0 u.0) (c, None) (zip charges weights) in
    let b : sum (c ∷ charges) ≡ c + sum charges = sum_by-cons (λ (x : ℕ). x) c charges in
    omega (arith, i, a, b)
reused_made (c ∷ charges) (Some w ∷ weights) capacity n =
    let i : charge_made_at capacity charges weights + charge_within capacity (reused charges weights) ≡ sum charges = reused_made charges weights capacity (omega (arith, n)) in
    let a : charge_made_at capacity (c ∷ charges) (Some w ∷ weights) ≡ cond (leb w capacity) 0 c + charge_made_at capacity charges weights = sum_by-cons (λ (u : ℕ × Option ℕ). cond (fits capacity u.1) 0 u.0) (c, Some w) (zip charges weights) in
    let b : sum (c ∷ charges) ≡ c + sum charges = sum_by-cons (λ (x : ℕ). x) c charges in
    let d : charge_within capacity ((w, c) ∷ reused charges weights) ≡ cond (leb w capacity) c 0 + charge_within capacity (reused charges weights) = sum_by-cons (λ (q : ℕ × ℕ). cond (leb q.0 capacity) q.1 0) (w, c) (reused charges weights) in
    let both : cond (leb w capacity) 0 c + cond (leb w capacity) c 0 ≡ c = elim (leb w capacity) as (λ t. cond t 0 c + cond t c 0 ≡ c) [ true ↦ omega arith | false ↦ omega arith ] in
    omega (arith, i, a, b, d, both)

-- no more uses have a reuse weight than there are, and no more charge
pub reused_length : (charges : List ℕ) (weights : List (Option ℕ)) → length (reused charges weights) ≤ length charges
reused_length [] weights = omega arith
reused_length (c ∷ charges) [] = omega arith
reused_length (c ∷ charges) (None ∷ weights) = let i : length (reused charges weights) ≤ length charges = reused_length charges weights in omega (arith, i)
reused_length (c ∷ charges) (Some w ∷ weights) = let i : length (reused charges weights) ≤ length charges = reused_length charges weights in omega (arith, i)

pub reused_charge : (charges : List ℕ) (weights : List (Option ℕ)) → sum (pair_charges (reused charges weights)) ≤ sum charges
reused_charge [] weights = omega arith
reused_charge (c ∷ charges) [] = omega arith
reused_charge (c ∷ charges) (None ∷ weights) =
    let i : sum (pair_charges (reused charges weights)) ≤ sum charges = reused_charge charges weights in
    let b : sum (c ∷ charges) ≡ c + sum charges = sum_by-cons (λ (x : ℕ). x) c charges in
    omega (arith, i, b)
reused_charge (c ∷ charges) (Some w ∷ weights) =
    let i : sum (pair_charges (reused charges weights)) ≤ sum charges = reused_charge charges weights in
    let a : sum (c ∷ pair_charges (reused charges weights)) ≡ c + sum (pair_charges (reused charges weights)) = sum_by-cons (λ (x : ℕ). x) c (pair_charges (reused charges weights)) in
    let b : sum (c ∷ charges) ≡ c + sum charges = sum_by-cons (λ (x : ℕ). x) c charges in
    omega (arith, i, a, b)

-- one use more
pub reused-push_none : (charges : List ℕ) (weights : List (Option ℕ)) (c : ℕ) → length charges ≡ length weights → reused (charges ++ c ∷ []) (weights ++ None ∷ []) ≡ reused charges weights
reused-push_none [] [] c n = refl
reused-push_none [] (w ∷ weights) c n = absurd (omega (arith, n))
reused-push_none (d ∷ charges) [] c n = absurd (omega (arith, n))
reused-push_none (d ∷ charges) (None ∷ weights) c n = reused-push_none charges weights c (omega (arith, n))
reused-push_none (d ∷ charges) (Some w ∷ weights) c n = ap (λ ps. (w, d) ∷ ps) (reused-push_none charges weights c (omega (arith, n)))

pub reused-push_some : (charges : List ℕ) (weights : List (Option ℕ)) (c v : ℕ) → length charges ≡ length weights → reused (charges ++ c ∷ []) (weights ++ Some v ∷ []) ≡ reused charges weights ++ (v, c) ∷ []
reused-push_some [] [] c v n = refl
reused-push_some [] (w ∷ weights) c v n = absurd (omega (arith, n))
reused-push_some (d ∷ charges) [] c v n = absurd (omega (arith, n))
reused-push_some (d ∷ charges) (None ∷ weights) c v n = reused-push_some charges weights c v (omega (arith, n))
reused-push_some (d ∷ charges) (Some w ∷ weights) c v n = ap (λ ps. (w, d) ∷ ps) (reused-push_some charges weights c v (omega (arith, n)))

-- the pairs of the uses before a place, and of one use more
module _ {K : Type 0} (trace : List (K × ℕ)) (weights : List (Option ℕ)) (place : ℕ) (same : length trace ≡ length weights) (more : place < length weights) where
  abbrev charges_of : List ℕ
  charges_of = map (λ v. v.1) trace

  charges_long : length charges_of ≡ length weights
  charges_long = let n : length charges_of ≡ length trace = length-map trace (λ (v : K × ℕ). v.1) in omega (arith, n, same)

  next_charge : take (place + 1) charges_of ≡ take place charges_of ++ get_or charges_of place 0 ∷ []
  next_charge = take_more charges_of place 0 (let n : length charges_of ≡ length weights = charges_long in omega (arith, n, more))

  parts_long : length (take place charges_of) ≡ length (take place weights)
  parts_long =
      let n : length charges_of ≡ length weights = charges_long in
      let a : length (take place charges_of) ≡ place = length-take-le place charges_of (omega (arith, n, more)) in
      let b : length (take place weights) ≡ place = length-take-le place weights (omega (arith, more)) in
      a ∙ sym b

  pub reused_first : get_or weights place None ≡ None → reused (take (place + 1) charges_of) (take (place + 1) weights) ≡ reused (take place charges_of) (take place weights)
  reused_first none =
      ap (λ cs. reused cs (take (place + 1) weights)) next_charge ∙ ap (reused (take place charges_of ++ get_or charges_of place 0 ∷ [])) (take_more weights place None more ∙ ap (λ o. take place weights ++ o ∷ []) none)
      ∙ reused-push_none (take place charges_of) (take place weights) (get_or charges_of place 0) parts_long

  pub reused_again : (u : K × ℕ) (w : ℕ) → get_or weights place None ≡ Some w → reused (take (place + 1) charges_of) (take (place + 1) weights) ≡ reused (take place charges_of) (take place weights) ++ (w, (get_or trace place u).1) ∷ []
  reused_again u w some =
      ap (λ cs. reused cs (take (place + 1) weights)) next_charge ∙ ap (reused (take place charges_of ++ get_or charges_of place 0 ∷ [])) (take_more weights place None more ∙ ap (λ o. take place weights ++ o ∷ []) some)
      ∙ reused-push_some (take place charges_of) (take place weights) (get_or charges_of place 0) w parts_long
      ∙ ap (λ c. reused (take place charges_of) (take place weights) ++ (w, c) ∷ []) (get_or-map (λ (v : K × ℕ). v.1) trace place u 0 (omega (arith, same, more)))

-- What a curve is built of: the pairs before i are taken, and left is the charge of all uses but
-- those.
pub record IsBuilt (total : ℕ) (ps : List (ℕ × ℕ)) (i left : ℕ) (weights made : List ℕ) : Type 0 where
  pub weights_are : weights ≡ pair_weights (take i ps)
  pub made_long : length made ≡ i + 1
  pub left_is : left + sum (take i (pair_charges ps)) ≡ total
  pub each : (h : ℕ) → h ≤ i → get_or made h 0 + sum (take h (pair_charges ps)) ≡ total

module _ (total : ℕ) (ps : List (ℕ × ℕ)) where
  pub built_first : IsBuilt total ps 0 total [] (total ∷ [])
  built_first = record { weights_are = refl; made_long = refl; left_is = omega arith; each = each }
    where
      each : (h : ℕ) → h ≤ 0 → get_or (total ∷ []) h 0 + sum (take h (pair_charges ps)) ≡ total
      each zero l = omega arith
      each (suc h) l = absurd (omega (arith, l))

  module _ (i left : ℕ) (weights made : List ℕ) (b : IsBuilt total ps i left weights made) (more : i < length ps) where
    abbrev next : ℕ × ℕ
    next = get_or ps i (0, 0)

    long_charges : i < length (pair_charges ps)
    long_charges = let n : length (pair_charges ps) ≡ length ps = length-map ps (λ (q : ℕ × ℕ). q.1) in omega (arith, n, more)

    more_charge : sum (take (i + 1) (pair_charges ps)) ≡ sum (take i (pair_charges ps)) + next.1
    more_charge = sum_by_more (λ (x : ℕ). x) (pair_charges ps) i 0 long_charges ∙ ap (λ c. sum (take i (pair_charges ps)) + c) (get_or-map (λ (q : ℕ × ℕ). q.1) ps i (0, 0) 0 more)

    -- what is left holds the next charge
    pub built_left : sum (pair_charges ps) ≤ total → next.1 ≤ left
    built_left whole =
        let part : sum (take (i + 1) (pair_charges ps)) ≤ sum (pair_charges ps) = sum_by-take-le (λ (x : ℕ). x) (pair_charges ps) (i + 1) in
        let l : left + sum (take i (pair_charges ps)) ≡ total = b.left_is in
        omega (arith, part, l, more_charge, whole)

    built_on : next.1 ≤ left → IsBuilt total ps (i + 1) (left - next.1) (weights ++ next.0 ∷ []) (made ++ (left - next.1) ∷ [])
    built_on enough =
        let l : left + sum (take i (pair_charges ps)) ≡ total = b.left_is in
        let then : left - next.1 + sum (take (i + 1) (pair_charges ps)) ≡ total = omega (arith, l, more_charge, enough) in
        let n : length made ≡ i + 1 = b.made_long in
        record {
          weights_are = ap (λ ws. ws ++ next.0 ∷ []) b.weights_are ∙ sym (map_push (λ (q : ℕ × ℕ). q.0) (take i ps) next) ∙ ap pair_weights (sym (take_more ps i (0, 0) more));
          made_long = length_push made (left - next.1) ∙ ap (λ m. m + 1) b.made_long;
          left_is = then;
          each = λ h low. elim (cases_lt i h) [
            | inl late ↦
                let last : h ≡ i + 1 = omega (arith, late, low) in
                subst (λ k. get_or (made ++ (left - next.1) ∷ []) k 0 + sum (take k (pair_charges ps)) ≡ total) (sym last)
                (ap (λ x. x + sum (take (i + 1) (pair_charges ps))) (get_or_push made (left - next.1) 0 (i + 1) n) ∙ then)
            | inr early ↦
                ap (λ x. x + sum (take h (pair_charges ps))) (get_or_append_left made ((left - next.1) ∷ []) 0 h (omega (arith, n, early))) ∙ b.each h early
          ];
        }

    -- the same of what was pushed
    pub built_push : (charge : ℕ) (ws ms : List ℕ) → charge ≡ next.1 → ws ≡ weights ++ next.0 ∷ [] → ms ≡ made ++ (left - charge) ∷ [] → next.1 ≤ left → IsBuilt total ps (i + 1) (left - charge) ws ms
    built_push charge ws ms e w m enough =
        subst (λ vs. IsBuilt total ps (i + 1) (left - charge) vs ms) (sym w)
        (subst (λ vs. IsBuilt total ps (i + 1) (left - charge) (weights ++ next.0 ∷ []) vs) (sym m)
        (subst (λ x. IsBuilt total ps (i + 1) (left - x) (weights ++ next.0 ∷ []) (made ++ (left - x) ∷ [])) (sym e) (built_on enough)))

-- what is built of the pairs of a trace
module _ {K : Type 0} (trace : List (K × ℕ)) (weights : List (Option ℕ)) (pairs : List (ℕ × ℕ)) (same : length trace ≡ length weights)
    (moved : IsPermutation (reused (map (λ u. u.1) trace) weights) pairs) (rising : IsNonDecreasingBy (λ (p : ℕ × ℕ). p.0) pairs) (ps : List (ℕ × ℕ)) (is : ps ≡ pairs) where
  abbrev charges : List ℕ
  charges = map (λ u. u.1) trace

  uses_long : length charges ≡ length trace
  uses_long = length-map trace (λ (u : K × ℕ). u.1)

  same_long : length charges ≡ length weights
  same_long = uses_long ∙ same

  same_pairs : IsPermutation (reused charges weights) ps
  same_pairs = subst (IsPermutation (reused charges weights)) (sym is) moved

  up : IsNonDecreasingBy (λ (p : ℕ × ℕ). p.0) ps
  up = subst (IsNonDecreasingBy (λ (p : ℕ × ℕ). p.0)) (sym is) rising

  pairs_charge : sum (pair_charges ps) ≤ sum charges
  pairs_charge =
      let m : sum (pair_charges ps) ≡ sum (pair_charges (reused charges weights)) = sum_by-IsPermutation (λ (x : ℕ). x) (pair_charges (reused charges weights)) (pair_charges ps) (IsPermutation-map (λ (q : ℕ × ℕ). q.1) (reused charges weights) ps same_pairs) in
      let b : sum (pair_charges (reused charges weights)) ≤ sum charges = reused_charge charges weights in
      omega (arith, m, b)

  pairs_long : length ps ≤ length trace
  pairs_long =
      let m : length ps ≡ length (reused charges weights) = length_permutation (reused charges weights) ps same_pairs in
      let b : length (reused charges weights) ≤ length charges = reused_length charges weights in
      let n : length charges ≡ length trace = uses_long in
      omega (arith, m, b, n)

  module _ (i left : ℕ) (ws made : List ℕ) (b : IsBuilt (sum charges) ps i left ws made) where
    pub built_next : i < length ps → (get_or ps i (0, 0)).1 ≤ left
    built_next more = built_left (sum charges) ps i left ws made b more pairs_charge

    module _ (all : length ps ≤ i) where
      whole : ws ≡ pair_weights ps
      whole = b.weights_are ∙ ap pair_weights (take_all i ps all)

      whole_long : length ws ≡ length ps
      whole_long = ap length whole ∙ length-map ps (λ (q : ℕ × ℕ). q.0)

      built_rising : IsRising ws
      built_rising = subst IsRising (sym whole) (λ j k le l.
          let n : length (pair_weights ps) ≡ length ps = length-map ps (λ (q : ℕ × ℕ). q.0) in
          let low : k < length ps = omega (arith, l, n) in
          let a : get_or (pair_weights ps) j 0 ≡ (get_or ps j (0, 0)).0 = get_or-map (λ (q : ℕ × ℕ). q.0) ps j (0, 0) 0 (omega (arith, le, low)) in
          let d : get_or (pair_weights ps) k 0 ≡ (get_or ps k (0, 0)).0 = get_or-map (λ (q : ℕ × ℕ). q.0) ps k (0, 0) 0 low in
          let r : (get_or ps j (0, 0)).0 ≤ (get_or ps k (0, 0)).0 = up j k (0, 0) le low in
          omega (arith, a, d, r))

      pub built_step_curve : i ≤ length ps → IsStepCurve (length trace) ws made
      built_step_curve within = record {
        rising = built_rising;
        some_hit =
            let w : length ws ≡ length ps = whole_long in
            let n : length ps ≤ length trace = pairs_long in
            omega (arith, w, n);
        each_made =
            let w : length ws ≡ length ps = whole_long in
            let m : length made ≡ i + 1 = b.made_long in
            omega (arith, w, m, all, within);
      }

      built_hits : (capacity : ℕ) → weights_within capacity ws ≡ pairs_within capacity ps
      built_hits capacity = ap (weights_within capacity) whole ∙ within_firsts ps capacity

      pairs_hits : (capacity : ℕ) → pairs_within capacity ps ≡ hits_at capacity weights
      pairs_hits capacity = sum_by-IsPermutation (λ (q : ℕ × ℕ). cond (leb q.0 capacity) 1 0) (reused charges weights) ps same_pairs ∙ reused_hits charges weights capacity same_long

      built_made : (capacity : ℕ) → get_or made (pairs_within capacity ps) 0 ≡ charge_made_at capacity charges weights
      built_made capacity =
          let few : pairs_within capacity ps ≤ length ps =
          let w : weights_within capacity (pair_weights ps) ≤ length (pair_weights ps) = within_all (pair_weights ps) capacity in
          let n : length (pair_weights ps) ≡ length ps = length-map ps (λ (q : ℕ × ℕ). q.0) in
          let f : weights_within capacity (pair_weights ps) ≡ pairs_within capacity ps = within_firsts ps capacity in
          omega (arith, w, n, f) in
          let at : get_or made (pairs_within capacity ps) 0 + sum (take (pairs_within capacity ps) (pair_charges ps)) ≡ sum charges = b.each (pairs_within capacity ps) (omega (arith, few, all)) in
          let firsts : sum (take (pairs_within capacity ps) (pair_charges ps)) ≡ charge_within capacity ps = first_charges ps capacity up in
          let m : charge_within capacity ps ≡ charge_within capacity (reused charges weights) = sum_by-IsPermutation (λ (q : ℕ × ℕ). cond (leb q.0 capacity) q.1 0) (reused charges weights) ps same_pairs in
          let parts : charge_made_at capacity charges weights + charge_within capacity (reused charges weights) ≡ sum charges = reused_made charges weights capacity same_long in
          omega (arith, at, firsts, m, parts)

      pub built_curve : IsCurveOf charges weights (record { uses = length trace; weights = ws; made = made })
      built_curve = record {
        uses = sym uses_long;
        hits = λ capacity. built_hits capacity ∙ pairs_hits capacity;
        made = λ capacity. ap (λ h. get_or made h 0) (built_hits capacity) ∙ built_made capacity;
      }
