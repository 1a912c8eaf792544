-- What the reuse weights of a sample stand for, one by one, and the least capacity of an estimate.
use Rattle.std.proofs.Common.{◌≡◌, ℕ, ◌+◌, ◌-◌, ◌*◌, ◌/◌, ◌<◌, ◌≤◌, inl, inr, List, [], ◌∷◌, ◌++◌, length, map, get_or, take, Option, None, Some, option_map, refl, ap, ◌∙◌, arith}
use Rattle.std.specs.List.{zip}
use Rattle.std.specs.Option.{MatchOption, IsSomeAnd}
use Rattle.std.proofs.Math.Nat.{div-mul-le_self, lt-mul-div-succ, min-eq_left, min-eq_right, min-le_left, mul-le-mul_left, mul-le-mul_right, mul_comm}
use Rattle.std.proofs.lemmas.Bool.{cases_lt}
use Rattle.std.proofs.lemmas.List.{get_or-map, length-map, take_all, take_more}
use Rattle.std.proofs.lemmas.Slice.Zip.{get_or-zip}
use Rattle.lru_sizing.specs.Curves.{hits_in, IsLeastFor}
use Rattle.lru_sizing.specs.Estimates.{EstimatedCurve, estimated_misses, estimated_hits, scaled_weight, scaled}
use Rattle.lru_sizing.proofs.Curves.{within_all}

zip_long : {X Y : Type 0} (xs : List X) (ys : List Y) → length xs ≡ length ys → length (zip xs ys) ≡ length ys
zip_long [] [] n = refl
zip_long [] (y ∷ ys) n = absurd (omega (arith, n))
zip_long (x ∷ xs) [] n = absurd (omega (arith, n))
zip_long (x ∷ xs) (y ∷ ys) n = let i : length (zip xs ys) ≡ length ys = zip_long xs ys (omega (arith, n)) in omega (arith, i)

module _ {K : Type 0} (one_in : ℕ) (trace : List (K × ℕ)) (weights : List (Option ℕ)) (same : length trace ≡ length weights) where
  abbrev charges_of : List ℕ
  charges_of = map (λ u. u.1) trace

  charges_long : length charges_of ≡ length weights
  charges_long = length-map trace (λ (u : K × ℕ). u.1) ∙ same

  pairs_long : length (zip charges_of weights) ≡ length weights
  pairs_long = zip_long charges_of weights charges_long

  -- what one of them stands for
  abbrev scaled_one : ℕ × Option ℕ → Option ℕ
  scaled_one u = option_map (λ w. scaled_weight one_in u.0 w) u.1

  pub scaled_long : length (scaled one_in charges_of weights) ≡ length weights
  scaled_long = length-map (zip charges_of weights) scaled_one ∙ pairs_long

  scaled_at : (place : ℕ) (u : K × ℕ) → place < length weights → get_or (scaled one_in charges_of weights) place None ≡ option_map (λ w. scaled_weight one_in (get_or trace place u).1 w) (get_or weights place None)
  scaled_at place u more =
      get_or-map scaled_one (zip charges_of weights) place (0, None) None (omega (arith, more, pairs_long))
      ∙ ap scaled_one (get_or-zip charges_of weights place (0, None) (omega (arith, more, charges_long)) more)
      ∙ ap (λ c. option_map (λ w. scaled_weight one_in c w) (get_or weights place None)) (get_or-map (λ (v : K × ℕ). v.1) trace place u 0 (omega (arith, more, same)))

  -- one more
  pub scaled_more : (place : ℕ) (u : K × ℕ) → place < length weights
      → take (place + 1) (scaled one_in charges_of weights) ≡ take place (scaled one_in charges_of weights) ++ option_map (λ w. scaled_weight one_in (get_or trace place u).1 w) (get_or weights place None) ∷ []
  scaled_more place u more =
      take_more (scaled one_in charges_of weights) place None (omega (arith, more, scaled_long))
      ∙ ap (λ o. take place (scaled one_in charges_of weights) ++ o ∷ []) (scaled_at place u more)

  -- all of them
  pub scaled_all : (place : ℕ) → length weights ≤ place → take place (scaled one_in charges_of weights) ≡ scaled one_in charges_of weights
  scaled_all place all = take_all place (scaled one_in charges_of weights) (omega (arith, all, scaled_long))

-- what a map by a closure gives, where the closure gives what f does
pub mapped : (f : ℕ → ℕ) (o r : Option ℕ) (P : ℕ → ℕ → Type 0) → ((x y : ℕ) → P x y → y ≡ f x) → MatchOption o (r ≡ None) (λ x. IsSomeAnd r (P x)) → r ≡ option_map f o
mapped f None r P h m = m
mapped f (Some x) None P h m = absurd m
mapped f (Some x) (Some y) P h m = ap Some (h x y m)

module _ (e : EstimatedCurve) (hits : ℕ) (some : 0 < hits) (pos : 0 < e.one_in) (room : hits ≤ e.uses) where
  -- so many sampled uses may miss
  abbrev most : ℕ
  most = (e.uses - hits) / e.one_in

  abbrev misses_at : ℕ → ℕ
  misses_at capacity = e.sampled.uses - hits_in capacity e.sampled

  enough_hit : (capacity : ℕ) → e.sampled.uses - most ≤ hits_in capacity e.sampled → hits ≤ estimated_hits capacity e
  enough_hit capacity h =
      let m : misses_at capacity ≤ most = omega (arith, h) in
      let a : misses_at capacity * e.one_in ≤ most * e.one_in = mul-le-mul_right e.one_in m in
      let b : most * e.one_in ≤ e.uses - hits = div-mul-le_self (e.uses - hits) e.one_in in
      let d : estimated_misses capacity e ≤ misses_at capacity * e.one_in = min-le_left (misses_at capacity * e.one_in) e.uses in
      omega (arith, a, b, d, room)

  too_few_hit : (capacity : ℕ) → hits_in capacity e.sampled < e.sampled.uses - most → estimated_hits capacity e < hits
  too_few_hit capacity h =
      let m : most + 1 ≤ misses_at capacity = omega (arith, h) in
      let a : e.one_in * (most + 1) ≤ e.one_in * misses_at capacity = mul-le-mul_left e.one_in m in
      let r : e.uses - hits < e.one_in * (most + 1) = lt-mul-div-succ (e.uses - hits) pos in
      let t : misses_at capacity * e.one_in ≡ e.one_in * misses_at capacity = mul_comm (misses_at capacity) e.one_in in
      elim (cases_lt e.uses (misses_at capacity * e.one_in)) [
        | inl l ↦
            let all : estimated_misses capacity e ≡ e.uses = min-eq_right (omega (arith, l)) in
            omega (arith, all, some)
        | inr l ↦
            let few : estimated_misses capacity e ≡ misses_at capacity * e.one_in = min-eq_left l in
            omega (arith, few, a, r, t, room)
      ]

  -- the least capacity at which few enough sampled uses miss is the least of the estimate
  pub least_estimate : (r : Option ℕ) → MatchOption r (length e.sampled.weights < e.sampled.uses - most) (IsLeastFor (e.sampled.uses - most) (λ c. hits_in c e.sampled))
      → MatchOption r ((capacity : ℕ) → estimated_hits capacity e < hits) (IsLeastFor hits (λ c. estimated_hits c e))
  least_estimate None h = λ capacity.
      let w : hits_in capacity e.sampled ≤ length e.sampled.weights = within_all e.sampled.weights capacity in
      too_few_hit capacity (omega (arith, w, h))
  least_estimate (Some c) h = record { enough = enough_hit c h.enough; least = λ less l. too_few_hit less (h.least less l) }
