-- Estimates of a curve from the uses of a sample of the keys. E is the equality of keys.
use Rattle.std.specs.Prelude.{◌≡◌, ℕ, ◌+◌, ◌-◌, ◌*◌, ◌%◌, ◌^◌, Bool, List, map, zip, fold, min, ◌==◌, Option, option_map, refl}
use Rattle.std.specs.Coded.{Coded, code_by, coded×, coded_ℕ}
use Rattle.std.specs.Hash.DefaultHasher as sip
use Rattle.lru_sizing.specs.Curves.{StepCurve, step_curve_code, hits_in, charge_made_in, IsCurveOf}
use Rattle.lru_sizing.specs.ReuseWeights.{reuse_weights}

-- whether a key that feeds this input to the hasher is sampled: one_in divides its hash
abbrev pub is_sampled : ℕ → List (List ℕ) → Bool
is_sampled one_in input = sip.finish (fold sip.write sip.initial input) % one_in == 0

-- The view of an estimate: the number of keys of which one is sampled, the number of all uses, and
-- the curve of the sampled uses at their scaled reuse weights.
pub record EstimatedCurve : Type 0 where
  pub one_in : ℕ
  pub uses : ℕ
  pub sampled : StepCurve

abbrev pub estimated_curve_code : Coded EstimatedCurve
estimated_curve_code =
    code_by (ℕ × (ℕ × StepCurve)) (coded× coded_ℕ (coded× coded_ℕ step_curve_code))
    (λ e. (e.one_in, (e.uses, e.sampled))) (λ p. record { one_in = p.0; uses = p.1.0; sampled = p.1.1 }) (λ _. refl)

-- each sampled use that misses counts as one_in misses, but at most all uses miss
abbrev pub estimated_misses : ℕ → EstimatedCurve → ℕ
estimated_misses capacity e = min ((e.sampled.uses - hits_in capacity e.sampled) * e.one_in) e.uses

-- the other uses hit
abbrev pub estimated_hits : ℕ → EstimatedCurve → ℕ
estimated_hits capacity e = e.uses - estimated_misses capacity e

-- the charge made for sampled uses counts one_in times, saturating at `u128::MAX`
abbrev pub estimated_charge_made : ℕ → EstimatedCurve → ℕ
estimated_charge_made capacity e = min (charge_made_in capacity e.sampled * e.one_in) (2 ^ 128 - 1)

-- the reuse weight that one among the sampled uses stands for: the charges of the other keys count
-- one_in times, the key's own charge once, saturating at `u64::MAX`
abbrev pub scaled_weight : ℕ → ℕ → ℕ → ℕ
scaled_weight one_in own weight = min ((weight - own) * one_in + own) (2 ^ 64 - 1)

-- the scaled reuse weights of uses with these charges and these reuse weights
abbrev pub scaled : ℕ → List ℕ → List (Option ℕ) → List (Option ℕ)
scaled one_in charges weights = map (λ u. option_map (λ w. scaled_weight one_in u.0 w) u.1) (zip charges weights)

-- the estimate from these sampled uses, if one key in one_in is sampled and there are this many
-- uses in all
pub record IsEstimateOf {K : Type 0} (E : K → K → Bool) (one_in : ℕ) (sampled : List (K × ℕ)) (uses : ℕ) (estimate : EstimatedCurve) : Type 0 where
  pub rate : estimate.one_in ≡ one_in
  pub all : estimate.uses ≡ uses
  pub curve : IsCurveOf (map (λ u. u.1) sampled) (scaled one_in (map (λ u. u.1) sampled) (reuse_weights E sampled)) estimate.sampled
