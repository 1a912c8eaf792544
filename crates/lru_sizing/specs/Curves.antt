-- The view of a curve: how many uses hit at each capacity, and the charge that is made for the
-- others.
use Rattle.std.specs.Prelude.{◌≡◌, ℕ, ◌+◌, ◌<◌, ◌≤◌, cond, List, [], ◌∷◌, length, count_by, sum_by, nat_le, slice_index, zip, Option, Some, None, refl}
use Rattle.std.specs.Coded.{Coded, code_by, coded×, coded_ℕ, coded_list}
use Rattle.lru_sizing.specs.HitsByWeight.{fits, hits_at}

-- The number of uses; the reuse weights of those that have one, in order of size; and for each
-- number of hits, from 0 on, the charge that is made if this many uses hit.
pub record StepCurve : Type 0 where
  pub uses : ℕ
  pub weights : List ℕ
  pub made : List ℕ

abbrev pub step_curve_code : Coded StepCurve
step_curve_code =
    code_by (ℕ × (List ℕ × List ℕ)) (coded× coded_ℕ (coded× (coded_list coded_ℕ) (coded_list coded_ℕ)))
    (λ c. (c.uses, (c.weights, c.made))) (λ p. record { uses = p.0; weights = p.1.0; made = p.1.1 }) (λ _. refl)

-- how many of these weights are at most the capacity
abbrev pub weights_within : ℕ → List ℕ → ℕ
weights_within capacity weights = count_by (λ w. nat_le w capacity) weights

abbrev pub hits_in : ℕ → StepCurve → ℕ
hits_in capacity curve = weights_within capacity curve.weights

abbrev pub charge_made_in : ℕ → StepCurve → ℕ
charge_made_in capacity curve = slice_index curve.made (hits_in capacity curve)

abbrev pub IsRising : List ℕ → Type 0
IsRising weights = (i j : ℕ) → i ≤ j → j < length weights → slice_index weights i ≤ slice_index weights j

-- what holds of every curve
pub record IsStepCurve (uses : ℕ) (weights made : List ℕ) : Type 0 where
  pub rising : IsRising weights
  pub some_hit : length weights ≤ uses
  pub each_made : length made ≡ length weights + 1

-- the charge that is made at this capacity: the sum of the charges of the uses that do not fit
abbrev pub charge_made_at : ℕ → List ℕ → List (Option ℕ) → ℕ
charge_made_at capacity charges weights = sum_by (λ u. cond (fits capacity u.1) 0 u.0) (zip charges weights)

-- the uses that have a reuse weight, each as its weight and its charge
abbrev pub reused : List ℕ → List (Option ℕ) → List (ℕ × ℕ)
reused [] weights = []
reused (c ∷ charges) [] = []
reused (c ∷ charges) (None ∷ weights) = reused charges weights
reused (c ∷ charges) (Some w ∷ weights) = (w, c) ∷ reused charges weights

-- the curve of uses with these charges and these reuse weights
pub record IsCurveOf (charges : List ℕ) (weights : List (Option ℕ)) (curve : StepCurve) : Type 0 where
  pub uses : curve.uses ≡ length charges
  pub hits : (capacity : ℕ) → hits_in capacity curve ≡ hits_at capacity weights
  pub made : (capacity : ℕ) → charge_made_in capacity curve ≡ charge_made_at capacity charges weights

-- the least capacity at which at least this many uses hit, by the hits at each capacity
pub record IsLeastFor (hits : ℕ) (hits_of : ℕ → ℕ) (capacity : ℕ) : Type 0 where
  pub enough : hits ≤ hits_of capacity
  pub least : (less : ℕ) → less < capacity → hits_of less < hits
