-- In a run whose begins and inserts are strict, the sum stays within the capacity.
use Rattle.std.proofs.Common.{◌≡◌, ℕ, ◌<◌, ◌≤◌, ◌⊎◌, inl, inr, Bool, List, [], ◌∷◌, max, sym, ap, subst, arith}
use Rattle.std.specs.Cmp.{IsEquivalence}
use Rattle.std.specs.List.{AllByRecursion}
use Rattle.std.proofs.Math.Nat.{le-max_left, le-max_right}
use Rattle.concurrent_lru.specs.Cache.{Cache, IsLawful, IsWithinCapacity, sum_of}
use Rattle.concurrent_lru.specs.Request as ask
use Rattle.concurrent_lru.specs.Request.{Request}
use Rattle.concurrent_lru.specs.Results.{IsCharged}
use Rattle.concurrent_lru.specs.Runs.{Outcome, accepted, refused, Stands, Run}
use Rattle.concurrent_lru.specs.StepLaws.{IsStrict, capacity_by}
use Rattle.concurrent_lru.specs.WholeRuns.{greatest_capacity, NeverLowers, EveryStrictRunKeepsLimit}
use Rattle.concurrent_lru.specs.declared.refusal.Refusal.TheVariants.{Memory, Overflow, Stale, Full}
use Rattle.concurrent_lru.proofs.Steps.StaysLawful.{keeps_limits, outcome_lawful}
use Rattle.concurrent_lru.proofs.Steps.StrictSteps.{strict_requests_keep_limit, outcome_stays_within}

module _ {K V : Type 0} (E : K → K → Bool) where
  -- the capacity after a step, and what the other steps set, are among those of the run
  first_within : (c : ℕ) (rs : List (Request K V)) → c ≤ greatest_capacity c rs
  first_within c [] = omega arith
  first_within c (ask.set_capacity n ∷ rs) = le-max_left c (greatest_capacity n rs)
  first_within c (_ ∷ rs) = first_within c rs

  others_within : (old new : Cache K V) (c : ℕ) (r : Request K V) (o : Outcome K V) (rs : List (Request K V)) → Stands E old r o new → greatest_capacity (capacity_by c r o) rs ≤ greatest_capacity c (r ∷ rs)
  others_within old new c (ask.set_capacity n) (accepted p out) rs h = le-max_right c (greatest_capacity n rs)
  others_within old new c (ask.set_capacity n) (refused Memory) rs h = absurd h.0
  others_within old new c (ask.set_capacity n) (refused Overflow) rs h = absurd h.0
  others_within old new c (ask.set_capacity n) (refused Stale) rs h = absurd h.0
  others_within old new c (ask.set_capacity n) (refused Full) rs h = absurd h.0
  others_within old new c _ o rs h = omega arith

  never_lowered : (old new : Cache K V) (c : ℕ) (r : Request K V) (o : Outcome K V) (rs : List (Request K V)) → Stands E old r o new → NeverLowers c (r ∷ rs) → (c ≤ capacity_by c r o) × NeverLowers (capacity_by c r o) rs
  never_lowered old new c (ask.set_capacity n) (accepted p out) rs h never = never
  never_lowered old new c (ask.set_capacity n) (refused Memory) rs h never = absurd h.0
  never_lowered old new c (ask.set_capacity n) (refused Overflow) rs h never = absurd h.0
  never_lowered old new c (ask.set_capacity n) (refused Stale) rs h never = absurd h.0
  never_lowered old new c (ask.set_capacity n) (refused Full) rs h never = absurd h.0
  never_lowered old new c _ o rs h never = (omega arith, never)

  module _ (laws : IsEquivalence E) where
    run_within : (old new : Cache K V) (rs : List (Request K V)) (os : List (Outcome K V)) → IsLawful E old → 0 < old.most_pins → AllByRecursion IsCharged rs → AllByRecursion IsStrict rs → Run E old rs os new → NeverLowers old.capacity rs → IsWithinCapacity old → IsWithinCapacity new
    run_within old new [] [] l pins charged strict h never was = subst IsWithinCapacity (sym h) was
    run_within old new (r ∷ rs) (o ∷ os) l pins charged strict h never was =
        let limits = keeps_limits K V E old h.0 r o h.1 in
        let next = never_lowered old h.0 old.capacity r o rs h.1 never in
        run_within h.0 new rs os (outcome_lawful E laws old l pins h.0 r o charged.0 h.1) (subst (λ n. 0 < n) (sym limits.1) pins) charged.1 strict.1 h.2
        (subst (λ c. NeverLowers c rs) (sym limits.0) next.1) (outcome_stays_within E old h.0 r o l strict.0 next.0 h.1 was)
    run_within old new [] (o ∷ os) l pins charged strict h never was = absurd h
    run_within old new (r ∷ rs) [] l pins charged strict h never was = absurd h

    run_bounded : (old new : Cache K V) (rs : List (Request K V)) (os : List (Outcome K V)) → IsLawful E old → 0 < old.most_pins → AllByRecursion IsCharged rs → AllByRecursion IsStrict rs → Run E old rs os new → (sum_of new ≤ sum_of old) ⊎ (sum_of new ≤ greatest_capacity old.capacity rs)
    run_bounded old new [] [] l pins charged strict h = let same : sum_of new ≡ sum_of old = ap sum_of h in inl (omega (arith, same))
    run_bounded old new (r ∷ rs) (o ∷ os) l pins charged strict h =
        let limits = keeps_limits K V E old h.0 r o h.1 in
        let cap : h.0.capacity ≡ capacity_by old.capacity r o = limits.0 in
        let among : greatest_capacity (capacity_by old.capacity r o) rs ≤ greatest_capacity old.capacity (r ∷ rs) = others_within old h.0 old.capacity r o rs h.1 in
        elim (run_bounded h.0 new rs os (outcome_lawful E laws old l pins h.0 r o charged.0 h.1) (subst (λ n. 0 < n) (sym limits.1) pins) charged.1 strict.1 h.2) [
          | inl less ↦ elim (strict_requests_keep_limit K V E old h.0 r o l strict.0 h.1) [
            | inl before ↦ inl (omega (arith, less, before))
            | inr within ↦
                let first : capacity_by old.capacity r o ≤ greatest_capacity (capacity_by old.capacity r o) rs = first_within (capacity_by old.capacity r o) rs in
                inr (omega (arith, less, within, cap, first, among))
          ]
          | inr fits ↦
              let is : greatest_capacity h.0.capacity rs ≡ greatest_capacity (capacity_by old.capacity r o) rs = ap (λ c. greatest_capacity c rs) cap in
              inr (omega (arith, fits, is, among))
        ]
    run_bounded old new [] (o ∷ os) l pins charged strict h = absurd h
    run_bounded old new (r ∷ rs) [] l pins charged strict h = absurd h

at_most_max : (n a b : ℕ) → (n ≤ a) ⊎ (n ≤ b) → n ≤ max a b
at_most_max n a b (inl h) = let m = le-max_left a b in omega (arith, h, m)
at_most_max n a b (inr h) = let m = le-max_right a b in omega (arith, h, m)

pub strict_runs_keep_limit : (K V : Type 0) (E : K → K → Bool) → IsEquivalence E → EveryStrictRunKeepsLimit K V E
strict_runs_keep_limit K V E laws old new rs os l pins charged h strict = record {
  within = λ never was. run_within E laws old new rs os l pins charged strict h never was;
  bounded = at_most_max (sum_of new) (sum_of old) (greatest_capacity old.capacity rs) (run_bounded E laws old new rs os l pins charged strict h);
}
