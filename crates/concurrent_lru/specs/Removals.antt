-- The removals of a run, and the uses that no later removal undoes. A removal is a prune, an
-- advice_evict or an invalidate. E is the equality of keys.
use Rattle.std.specs.Prelude.{Bool, true, false, List, [], ◌∷◌, ◌++◌, filter, not}
use Rattle.std.specs.List.{list_any}
use Rattle.concurrent_lru.specs.Request as ask
use Rattle.concurrent_lru.specs.Request.{Request}
use Rattle.concurrent_lru.specs.Runs.{Outcome}
use Rattle.concurrent_lru.specs.Uses.{uses}

-- no request is a removal
abbrev pub HaveNoRemoval : {K V : Type 0} → List (Request K V) → Type 0
HaveNoRemoval [] = Unit {0}
HaveNoRemoval (ask.advice_evict k ∷ rs) = ⊥
HaveNoRemoval (ask.invalidate k ∷ rs) = ⊥
HaveNoRemoval (ask.prune ∷ rs) = ⊥
HaveNoRemoval (_ ∷ rs) = HaveNoRemoval rs

module _ {K V : Type 0} (E : K → K → Bool) where
  -- whether the request removes the key: a prune removes all keys, an advice_evict or an invalidate
  -- those that equal its own
  abbrev pub removes : K → Request K V → Bool
  removes k (ask.advice_evict l) = E k l
  removes k (ask.invalidate l) = E k l
  removes k ask.prune = true
  removes k _ = false

  -- whether one of the steps removes the key
  abbrev pub is_removed_by : K → List (Request K V × Outcome K V) → Bool
  is_removed_by k es = list_any (λ e. removes k e.0) es

  -- the keys used, in order, without the uses of keys that a later step removes
  abbrev pub remaining_uses : List (Request K V × Outcome K V) → List K
  remaining_uses [] = []
  remaining_uses (e ∷ es) = filter (λ k. not (is_removed_by k es)) (uses (e ∷ [])) ++ remaining_uses es
