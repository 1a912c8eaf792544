-- Runs in which the capacity changes and keys are removed, their moments, and the weight of a used
-- key. E is the equality of keys. None of this mentions pins, the idle order or evictions, only
-- last uses, removals, charges and capacities.
use Rattle.std.specs.Prelude.{◌≡◌, ℕ, ◌≤◌, Bool, false, cond, List, [], ◌∷◌, ◌++◌, map, sum_by}
use Rattle.std.specs.List.{list_any}
use Rattle.concurrent_lru.specs.Request as ask
use Rattle.concurrent_lru.specs.Request.{Request}
use Rattle.concurrent_lru.specs.Reply as say
use Rattle.concurrent_lru.specs.Runs.{Outcome, accepted}
use Rattle.concurrent_lru.specs.Uses.{uses, last_uses}
use Rattle.concurrent_lru.specs.Removals.{HaveNoRemoval, remaining_uses}

module _ {K V : Type 0} where
  -- A plain run with changes: each key is either made or hit and then released at once, or read; a
  -- get or a read may miss; and in between the capacity may be set, a key may be removed by an
  -- advice_evict or an invalidate, and all keys by a prune.
  abbrev pub IsPlainWithChanges : List (Request K V × Outcome K V) → Type 0
  IsPlainWithChanges [] = Unit {0}
  IsPlainWithChanges ((ask.begin k c, accepted (say.make s) _) ∷ (ask.ready t _, accepted say.done _) ∷ (ask.release u, accepted say.done _) ∷ es) = (t ≡ s) × (u ≡ s) × IsPlainWithChanges es
  IsPlainWithChanges ((ask.begin k c, accepted (say.hit s _) _) ∷ (ask.release u, accepted say.done _) ∷ es) = (u ≡ s) × IsPlainWithChanges es
  IsPlainWithChanges ((ask.get k, accepted (say.hit s _) _) ∷ (ask.release u, accepted say.done _) ∷ es) = (u ≡ s) × IsPlainWithChanges es
  IsPlainWithChanges ((ask.get k, accepted say.missed _) ∷ es) = IsPlainWithChanges es
  IsPlainWithChanges ((ask.read k, accepted (say.read s _) _) ∷ es) = IsPlainWithChanges es
  IsPlainWithChanges ((ask.read k, accepted say.missed _) ∷ es) = IsPlainWithChanges es
  IsPlainWithChanges ((ask.set_capacity c, accepted say.done _) ∷ es) = IsPlainWithChanges es
  IsPlainWithChanges ((ask.advice_evict k, accepted say.done _) ∷ es) = IsPlainWithChanges es
  IsPlainWithChanges ((ask.invalidate k, accepted say.done _) ∷ es) = IsPlainWithChanges es
  IsPlainWithChanges ((ask.prune, accepted say.done _) ∷ es) = IsPlainWithChanges es
  IsPlainWithChanges _ = ⊥

  -- the capacity after these steps: the one that was set last, or else the initial one
  abbrev pub capacity_after : ℕ → List (Request K V × Outcome K V) → ℕ
  capacity_after capacity [] = capacity
  capacity_after capacity ((ask.set_capacity c, _) ∷ es) = capacity_after c es
  capacity_after capacity (_ ∷ es) = capacity_after capacity es

  -- A moment of a run is a point at which it can be split: some steps are before it, and the others
  -- after it.
  abbrev pub IsMoment : List (Request K V × Outcome K V) → List (Request K V × Outcome K V) → List (Request K V × Outcome K V) → Type 0
  IsMoment es before after = es ≡ before ++ after

module _ {K : Type 0} (E : K → K → Bool) where
  -- the end of a list of keys, from the first one equal to k on
  abbrev pub end_from : K → List K → List K
  end_from k [] = []
  end_from k (l ∷ ls) = cond (E k l) (l ∷ ls) (end_from k ls)

  -- the weight of a used key: the sum of the charges of the distinct keys last used at or after its
  -- own last use
  abbrev pub weight : (K → ℕ) → List K → K → ℕ
  weight charge used k = sum_by charge (end_from k (last_uses E used))

  -- none of the steps uses the key
  abbrev pub LacksUseOf : {V : Type 0} → K → List (Request K V × Outcome K V) → Type 0
  LacksUseOf k es = list_any (E k) (uses es) ≡ false

  -- at every moment since the last use of k, including the end of that use, P holds of the steps
  -- before it
  abbrev pub SinceLastUse : {V : Type 0} → List (Request K V × Outcome K V) → K → (List (Request K V × Outcome K V) → Type 0) → Type 0
  SinceLastUse {V} es k P = (before after : List (Request K V × Outcome K V)) → IsMoment es before after → LacksUseOf k after → P before

  -- At every moment since its last use, the weight of a key among the uses that remained then was
  -- at most the capacity of that moment. A key that is removed later still counts at the moments
  -- before its removal.
  abbrev pub AlwaysFitted : {V : Type 0} → (K → ℕ) → ℕ → List (Request K V × Outcome K V) → K → Type 0
  AlwaysFitted charge capacity es k = SinceLastUse es k (λ before. weight charge (remaining_uses E before) k ≤ capacity_after capacity before)

  -- no step since the last use of k is a removal, whatever its key
  abbrev pub NoneRemovedSince : {V : Type 0} → List (Request K V × Outcome K V) → K → Type 0
  NoneRemovedSince {V} es k = (before after : List (Request K V × Outcome K V)) → IsMoment es before after → LacksUseOf k after → HaveNoRemoval (map (λ e. e.0) after)

  -- at every moment, all uses before it remain
  abbrev pub AllRemain : {V : Type 0} → List (Request K V × Outcome K V) → Type 0
  AllRemain {V} es = (before after : List (Request K V × Outcome K V)) → IsMoment es before after → remaining_uses E before ≡ uses before
