-- The view of a `State`: the abstract cache, and the number of writes to its idle order. How the
-- outcome of a call changes that number.
use Rattle.std.specs.Prelude.{◌≡◌, ℕ, ◌+◌, ◌≤◌, List, length, map, sum_by, Option, Some, None, refl}
use Rattle.std.specs.Coded.{Coded, code_by, coded×, coded_ℕ}
use Rattle.concurrent_lru.specs.Cache.{Cache, cache_code}
use Rattle.concurrent_lru.specs.Entries.{Entries, cache_with}
use Rattle.concurrent_lru.specs.Reply as say
use Rattle.concurrent_lru.specs.Results.{outcome_of_by}
use Rattle.concurrent_lru.specs.Runs.{Outcome, accepted, refused}
use Rattle.concurrent_lru.specs.declared.step.Answer.{Answer}
use Rattle.concurrent_lru.specs.declared.step.Answer.TheVariants as answer

-- work is the number of writes to the idle order; no step of the cache depends on it
pub record Counted (K V : Type 0) : Type 0 where
  pub cache : Cache K V
  pub work : ℕ

-- the greatest number of writes of a read, by its result
abbrev pub most_writes_of_read : {T : Type 0} → Option T → ℕ
most_writes_of_read None = 1
most_writes_of_read (Some r) = 2

module _ {K V : Type 0} where
  abbrev pub counted_code : Coded K → Coded V → Coded (Counted K V)
  counted_code k v = code_by (Cache K V × ℕ) (coded× (cache_code k v) coded_ℕ) (λ c. (c.cache, c.work)) (λ p. record { cache = p.0; work = p.1 }) (λ _. refl)

  -- the cache of these entries and numbers, with the number of writes to their order
  abbrev pub counted_with : ℕ → ℕ → ℕ → Entries K V → Counted K V
  counted_with capacity most_pins next t = record { cache = cache_with capacity most_pins next t; work = t.work }

  -- the caches without their numbers of writes
  abbrev pub caches_in : List (Counted K V) → List (Cache K V)
  caches_in cs = map (λ c. c.cache) cs

  -- the idle order was written at most once more than entries were evicted, and not at all if the
  -- call was refused
  abbrev pub WritesAtMostOneMore : Counted K V → Outcome K V → Counted K V → Type 0
  WritesAtMostOneMore old (accepted reply evicted) new = new.work ≤ old.work + 1 + length evicted
  WritesAtMostOneMore old (refused e) new = new.work ≡ old.work

  -- the greatest number of writes of a step: two for a read that finds a value, one for any other
  -- accepted step, and one more for each entry that it evicts
  abbrev pub most_writes : Outcome K V → ℕ
  most_writes (accepted (say.read s v) evicted) = 2 + length evicted
  most_writes (accepted reply evicted) = 1 + length evicted
  most_writes (refused e) = 0

  -- a run writes at most as often as its steps may together
  abbrev pub StepsWriteAtMost : Counted K V → List (Outcome K V) → Counted K V → Type 0
  StepsWriteAtMost old outcomes new = new.work ≤ old.work + sum_by most_writes outcomes

module _ {K V S : Type 0} (seen : S → V) where
  -- a step with this answer writes at most once more than it evicts entries, and a read that finds
  -- a value at most twice
  abbrev pub StepWritesBy : {M : Type 0} → Counted K V → Answer K V M S → Counted K V → Type 0
  StepWritesBy old (answer.Read found) new = new.work ≤ old.work + most_writes_of_read found
  StepWritesBy old a new = WritesAtMostOneMore old (outcome_of_by seen a) new
