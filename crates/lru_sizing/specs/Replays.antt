-- The replay of a trace in a cache, and of a single use. E is the equality of keys.
use Rattle.std.specs.Prelude.{◌≡◌, ℕ, Bool, List, [], ◌∷◌, map}
use Rattle.concurrent_lru.specs.Cache.{Cache}
use Rattle.concurrent_lru.specs.Request.{Request}
use Rattle.concurrent_lru.specs.Runs.{Outcome, Run}
use Rattle.concurrent_lru.specs.Uses.{IsPlain, begins, HaveNoGet}
use Rattle.lru_sizing.specs.HitsByWeight.{begun_hits}

-- Steps with their outcomes that lead from one cache to another: a plain run without gets whose
-- begins are the uses of the trace, and hit or miss as given.
pub record IsReplay {K V : Type 0} (E : K → K → Bool) (old : Cache K V) (trace : List (K × ℕ)) (hits : List Bool) (new : Cache K V) : Type 0 where
  pub steps : List (Request K V × Outcome K V)
  pub run : Run E old (map (λ e. e.0) steps) (map (λ e. e.1) steps) new
  pub plain : IsPlain steps
  pub no_get : HaveNoGet (map (λ e. e.0) steps)
  pub begun : begins (map (λ e. e.0) steps) ≡ trace
  pub answered : begun_hits steps ≡ hits

-- the key was used once with this charge, and hit or missed as given
abbrev pub IsUsedOnce : {K V : Type 0} → (K → K → Bool) → Cache K V → K → ℕ → Bool → Cache K V → Type 0
IsUsedOnce E old k charge hit new = IsReplay E old ((k, charge) ∷ []) (hit ∷ []) new
